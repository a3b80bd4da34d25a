-- Events after events.
use Rattle.std.proofs.Common.{◌≡◌, Bool, true, ◌&&◌, List, [], ◌∷◌, ◌++◌, refl, sym, ap, ◌∙◌, subst}
use Rattle.std.specs.List.{list_all}
use Rattle.std.proofs.lemmas.Bool.{and_parts, and_from}
use Rattle.std.proofs.lemmas.List.{append-nil, append_assoc}
use Rattle.std.proofs.lemmas.List.Folds.{list_all-append}
use Rattle.object.specs.Objects.{Rules}
use Rattle.agreement.specs.Worlds.{World}
use Rattle.agreement.specs.Runs.{Leads, at_once, after}
use Rattle.agreement.specs.declared.event.Event.{Event}
use Rattle.agreement.specs.declared.event.Event.TheVariants.{Submit, Deliver, Wake, Nudge, Propose as ProposeNext, Perform, Restart}
use Rattle.world.specs.Rescues.{keeps_nodes}
use Rattle.world.specs.WaysOut.{AddsEvent, Goes, is_talk}

pub all_weaker : {A : Type 0} (p q : A → Bool) → ((x : A) → p x ≡ true → q x ≡ true) → (xs : List A) → list_all p xs ≡ true → list_all q xs ≡ true
all_weaker p q weaker [] a = refl
all_weaker p q weaker (x ∷ xs) a =
    let both = and_parts (p x) (list_all p xs) a in
    and_from (q x) (list_all q xs) (weaker x both.0) (all_weaker p q weaker xs both.1)

pub leads_on : {O Op Reply : Type 0} (rules : Rules O Op Reply) (w v u : World Op Reply) (es fs : List (Event Op))
    → Leads rules w es v → Leads rules v fs u → Leads rules w (es ++ fs) u
leads_on rules w v _ es _ first at_once = subst (λ l. Leads rules w l v) (sym (append-nil es)) first
leads_on rules w v u es _ first (after {es = fs} {v = x} e _ led step) =
    subst (λ l. Leads rules w l u) (append_assoc es fs (e ∷ [])) (after e u (leads_on rules w v x es fs first led) step)

talk_keeps : {Op : Type 0} (e : Event Op) → is_talk e ≡ true → keeps_nodes e ≡ true
talk_keeps (Submit n c) h = refl
talk_keeps (Deliver i) h = refl
talk_keeps (Wake n) h = refl
talk_keeps (Nudge n) h = refl
talk_keeps (ProposeNext n) h = refl
talk_keeps (Perform n) h = refl
talk_keeps (Restart n) h = absurd (cc)

module _ {O Op Reply : Type 0} {rules : Rules O Op Reply} where
  pub stays_there : {kind : Event Op → Bool} (w : World Op Reply) (before : List (Event Op)) → Goes rules kind w before w before
  stays_there w before = record { events = []; led = at_once; noted = sym (append-nil before); each = refl }

  pub goes_on : {kind : Event Op → Bool} {w v u : World Op Reply} {a b c : List (Event Op)} → Goes rules kind w a v b
      → Goes rules kind v b u c → Goes rules kind w a u c
  goes_on {kind = kind} {w = w} {v = v} {u = u} {a = a} x y = record {
    events = x.events ++ y.events;
    led = leads_on rules w v u x.events y.events x.led y.led;
    noted = y.noted ∙ ap (λ l. l ++ y.events) x.noted ∙ append_assoc a x.events y.events;
    each = list_all-append kind x.events y.events ∙ and_from (list_all kind x.events) (list_all kind y.events) x.each y.each;
  }

  pub one_goes : (kind : Event Op → Bool) {e : Event Op} {w v : World Op Reply} {before now : List (Event Op)}
      → AddsEvent rules e w before v now → kind e ≡ true → Goes rules kind w before v now
  one_goes kind {e = e} {v = v} one is = record { events = e ∷ []; led = after e v at_once one.step; noted = one.noted; each = ap (λ t. t && true) is }

  pub talk_goes : {w v : World Op Reply} {a b : List (Event Op)} → Goes rules is_talk w a v b → Goes rules keeps_nodes w a v b
  talk_goes g = record { events = g.events; led = g.led; noted = g.noted; each = all_weaker is_talk keeps_nodes talk_keeps g.events g.each }
