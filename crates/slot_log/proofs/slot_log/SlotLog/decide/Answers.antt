use Rattle.std.proofs.Common.{◌≡◌, ◌≤◌, ◌^◌, ℕ, true, Option, Some, None, Bor, refl, ap, subst, sym, ◌∙◌, arith}
use Rattle.std.proofs.lemmas.Option.{same_Some}
use Rattle.std.specs.FinMap.{get, insert, remove}
use Rattle.std.specs.Option.{is_some, option_copied}
use Rattle.ballot.specs.Slots.{Slots}
use Rattle.ballot.proofs.SlotMaps.{remove-insert}
use Rattle.slot_log.specs.Requests.{is_known}
use Rattle.slot_log.specs.Kept.{book_of, KeepsBook}
use Rattle.slot_log.proofs.Maps.{some_inserted}
use Rattle.slot_log.proofs.Books.{decision_at}
use Rattle.slot_log.proofs.Deciding.{places_kept, noted_kept, known_kept}
use Rattle.slot_log.proofs.slot_log.SlotLog.decide.Goals as goal

pub invariant_of-self-then-known : goal.invariant_of-self-then-known
invariant_of-self-then-known g c =
    let a = c.self.inside in
    let numbered : c.args.slot ≤ 2 ^ 62 = omega arith in
    let free = sym (decision_at a c.args.self.now c.self.view_is c.args.slot) ∙ c.requires in
    let known = ap (λ b. is_known g.C.PartialEq.eq b c.args.command) c.self.view_is ∙ sym c.is_known-known.ensures ∙ c.if-known.true in
    subst (λ (ds : Slots g.row.C.Denot). KeepsBook g.C.PartialEq.eq g.C.Keyed.key_of (record a { decisions = ds })) (sym c.in_ok-insert.ensures.ok.0)
    (known_kept g.C.PartialEq.eq g.C.Keyed.key_of g.met.C.Value.exact g.met.C.Eq.laws.refl a c.self.invariant c.args.slot c.args.command numbered free known)

-- the decision that was put
put_there : {C : Type 0} (m n : Slots C) (slot : ℕ) (x : C) (o : Option (Bor C)) → n ≡ insert m slot x → option_copied o ≡ get n slot → option_copied o ≡ Some x
put_there m n slot x o puts got = got ∙ ap (λ (k : Slots _). get k slot) puts ∙ some_inserted m slot x

there : {C : Type 0} (o : Option (Bor C)) (x : C) → option_copied o ≡ Some x → is_some o ≡ true
there None x h = cc
there (Some r) x h = refl

pub unwrap-command-requires : goal.unwrap-command-requires
unwrap-command-requires g c =
    there c.get.result c.args.command
    (put_there c.self.inside.decisions c.insert.new.self c.args.slot c.args.command c.get.result
    c.in_ok-insert.ensures.ok.0 c.get.ensures)

pub invariant_of-self-in-Ok : goal.invariant_of-self-in-Ok
invariant_of-self-in-Ok g c =
    let a = c.self.inside in
    let x = c.unwrap-command.result.now in
    let numbered : c.args.slot ≤ 2 ^ 62 = omega arith in
    let free = sym (decision_at a c.args.self.now c.self.view_is c.args.slot) ∙ c.requires in
    let is : c.args.command ≡ x = same_Some c.args.command x
    (sym (put_there a.decisions c.insert.new.self c.args.slot c.args.command c.get.result c.in_ok-insert.ensures.ok.0
    c.get.ensures) ∙ ap option_copied c.unwrap-command.ensures) in
    subst (λ (ds : Slots g.row.C.Denot). KeepsBook g.C.PartialEq.eq g.C.Keyed.key_of
    (record a { decisions = ds; places = c.note.new.self }))
    (sym (c.in_ok-insert.ensures.ok.0 ∙ ap (insert a.decisions c.args.slot) is))
    (noted_kept g.C.PartialEq.eq g.C.Keyed.key_of g.met.C.Value.exact g.met.C.Eq.laws.refl a c.self.invariant
    c.args.slot x numbered free c.note.new.self c.in-Ok.ensures.places c.in-Ok.ensures.others)

-- what is put in a new place and taken out again
restored : {C : Type 0} (m n k : Slots C) (slot : ℕ) (x : C) → get m slot ≡ None → n ≡ insert m slot x → k ≡ remove n slot → m ≡ k
restored m n k slot x free puts takes = sym (takes ∙ ap (λ (k : Slots _). remove k slot) puts ∙ remove-insert m slot x (ap is_some free))

pub invariant_of-self-in-Err : goal.invariant_of-self-in-Err
invariant_of-self-in-Err g c =
    let a = c.self.inside in
    let free = sym (decision_at a c.args.self.now c.self.view_is c.args.slot) ∙ c.requires in
    subst (λ (ds : Slots g.row.C.Denot). KeepsBook g.C.PartialEq.eq g.C.Keyed.key_of (record a { decisions = ds; places = c.note.new.self }))
    (restored a.decisions c.insert.new.self c.remove.new.self c.args.slot c.args.command free c.in_ok-insert.ensures.ok.0 c.remove.ensures.rest)
    (places_kept g.C.PartialEq.eq g.C.Keyed.key_of g.met.C.Value.exact g.met.C.Eq.laws.refl a c.self.invariant
    c.note.new.self c.in-Err.ensures.err.0 c.in-Err.ensures.err.1)

pub returns-in-Err : goal.returns-in-Err
returns-in-Err g c =
    let a = c.self.inside in
    let free = sym (decision_at a c.args.self.now c.self.view_is c.args.slot) ∙ c.requires in
    record {
      ok = (
        tt,
        sym (ap (λ (ds : Slots g.row.C.Denot). record (book_of a) { decisions = ds })
            (restored a.decisions c.insert.new.self c.remove.new.self c.args.slot c.args.command free
            c.in_ok-insert.ensures.ok.0 c.remove.ensures.rest))
            ∙ c.self.view_is,
      );
    }
