-- A reader that goes on in a slice of bytes.
use Rattle.std.proofs.Common.{◌≡◌, ℕ, ◌+◌, ◌*◌, ◌-◌, ◌<◌, ◌≤◌, List, ◌++◌, Some, None, Ok, Err, length, take, drop, subst, sym, length-drop, arith}
use Rattle.std.proofs.lemmas.List.{drop-drop}
use Rattle.bean_codec.specs.declared.profile.Profile.{Profile}
use Rattle.bean_codec.specs.declared.reader.Want.{Want}
use Rattle.bean_codec.specs.declared.reader.Want.TheVariants.{Line}
use Rattle.bean_codec.specs.declared.request.Fault.{Fault}
use Rattle.bean_codec.specs.declared.request.Request.{Request}
use Rattle.bean_codec.specs.Grammar.{Item}
use Rattle.bean_codec.specs.Wants.{Fits}
use Rattle.bean_codec.specs.Replies.{fault_text}
use Rattle.session.specs.Held.{Held, MayKeep, StandsBefore, Finds, holding}
use Rattle.session.proofs.Standing.{Continues, Drops, NeedsMore, Looks, looks_dropping, looks_past_fault, finds_none, finds_request, rank, rank_bound, takes}

-- it stays within the bytes
pub within : (bytes kept : List ℕ) (at used : ℕ) → kept ≡ drop at bytes → at ≤ length bytes → used ≤ length kept → at + used ≤ length bytes
within bytes kept at used e fits u =
    let v : used ≤ length (drop at bytes) = subst (λ (k : List ℕ). used ≤ length k) e u in
    omega (arith, v, fits, length-drop at bytes)

module _ (profile : Profile) where
  pub drops_on : (old : Held) (want next : Want) (bytes kept unsent : List ℕ) (at used : ℕ) → kept ≡ drop at bytes
      → Drops profile want kept used next → Looks profile old (holding profile want (drop at bytes) unsent)
      → Looks profile old (holding profile next (drop (at + used) bytes) unsent)
  drops_on old want next bytes kept unsent at used e drops looks =
      subst (λ k. Looks profile old (holding profile next k unsent)) (drop-drop used at bytes)
      (looks_dropping profile old want next (drop at bytes) unsent used (subst (λ k. Drops profile want k used next) e drops) looks)

  pub goes_past_fault : (old : Held) (want : Want) (bytes kept unsent new : List ℕ) (at : ℕ) (fault : Fault) (used : ℕ)
      → kept ≡ drop at bytes → Continues profile want kept (Err fault, used) → new ≡ unsent ++ fault_text fault
      → Looks profile old (holding profile want (drop at bytes) unsent) → Looks profile old (holding profile Line (drop (at + used) bytes) new)
  goes_past_fault old want bytes kept unsent new at fault used e item written looks =
      subst (λ k. Looks profile old (holding profile Line k new)) (drop-drop used at bytes)
      (looks_past_fault profile old want (drop at bytes) unsent new fault used
      (subst (λ k. Continues profile want k (Err fault, used)) e item) written looks)

  pub comes_to_none : (old : Held) (want : Want) (bytes kept unsent : List ℕ) (at : ℕ) → kept ≡ drop at bytes
      → NeedsMore profile want kept → Looks profile old (holding profile want (drop at bytes) unsent) → (t : List ℕ) → StandsBefore old t
      → Finds profile old (holding profile want (drop at bytes) unsent) t None
  comes_to_none old want bytes kept unsent at e more looks =
      finds_none profile old want (drop at bytes) unsent (subst (NeedsMore profile want) e more) looks

  pub comes_to_request : (old : Held) (want : Want) (bytes kept unsent : List ℕ) (at : ℕ) (request : Request) (used : ℕ)
      → kept ≡ drop at bytes → Continues profile want kept (Ok request, used) → Looks profile old (holding profile want (drop at bytes) unsent)
      → (t : List ℕ) → StandsBefore old t → Finds profile old (holding profile Line (drop (at + used) bytes) unsent) t (Some request)
  comes_to_request old want bytes kept unsent at request used e item looks =
      subst (λ k. (t : List ℕ) → StandsBefore old t → Finds profile old (holding profile Line k unsent) t (Some request))
      (drop-drop used at bytes) (finds_request profile old want (drop at bytes) unsent request used
      (subst (λ k. Continues profile want k (Ok request, used)) e item) looks)

  -- and some text that was dropped fits
  pub may_keep : (want next : Want) (bytes kept : List ℕ) (at used : ℕ) → kept ≡ drop at bytes → Drops profile want kept used next
      → MayKeep profile want (drop at bytes) → MayKeep profile next (drop (at + used) bytes)
  may_keep want next bytes kept at used e drops keep =
      let dropping : Drops profile want (drop at bytes) used next = subst (λ k. Drops profile want k used next) e drops in
      let dropped = keep.0 ++ take used (drop at bytes) in
      (dropped, subst (λ k. Fits profile next dropped k) (drop-drop used at bytes) (dropping keep.0 keep.1).2)

  pub drop_fits : (want next : Want) (bytes kept : List ℕ) (at used : ℕ) → kept ≡ drop at bytes
      → Drops profile want kept used next → MayKeep profile want (drop at bytes) → (1 ≤ used) × (used ≤ length kept)
  drop_fits want next bytes kept at used e drops keep =
      let d = drops keep.0 (subst (λ k. Fits profile want keep.0 k) (sym e) keep.1) in
      (d.0, d.1)

  pub item_fits : (want : Want) (bytes kept : List ℕ) (at : ℕ) (item : Item) (used : ℕ) → kept ≡ drop at bytes
      → Continues profile want kept (item, used) → MayKeep profile want (drop at bytes) → used ≤ length kept
  item_fits want bytes kept at item used e c keep = (c keep.0 (subst (λ k. Fits profile want keep.0 k) (sym e) keep.1)).0

  -- and there is less to do
  pub less_past_fault : (want : Want) (bytes kept : List ℕ) (at : ℕ) (item : Item) (used : ℕ) → kept ≡ drop at bytes
      → at ≤ length bytes → Continues profile want kept (item, used) → used ≤ length kept
      → 2 * (length bytes - (at + used)) + rank Line < 2 * (length bytes - at) + rank want
  less_past_fault want bytes kept at item used e fits c u =
      let some = takes profile want kept item used c in
      let v : used ≤ length (drop at bytes) = subst (λ (k : List ℕ). used ≤ length k) e u in
      omega (arith, v, fits, some, length-drop at bytes)

  pub less_dropping : (want next : Want) (bytes kept : List ℕ) (at used : ℕ) → kept ≡ drop at bytes → at ≤ length bytes
      → (1 ≤ used) × (used ≤ length kept)
      → 2 * (length bytes - (at + used)) + rank next < 2 * (length bytes - at) + rank want
  less_dropping want next bytes kept at used e fits d =
      let v : used ≤ length (drop at bytes) = subst (λ (k : List ℕ). used ≤ length k) e d.1 in
      omega (arith, v, fits, d.0, rank_bound next, length-drop at bytes)
