use Rattle.std.proofs.Common.{◌≡◌, length, map, Some, refl, sym, ap, subst, ◌∙◌, rules}
use Rattle.std.proofs.lemmas.Bool.{false≢true}
use Rattle.std.proofs.lemmas.Option.{slice_get_read}
use Rattle.object.specs.Lists.{In}
use Rattle.object.specs.ListLaws.{In-map, In-get}
use Rattle.chronicle.specs.declared.replay.Given.{Given}
use Rattle.chronicle.specs.Replaying.{placed}
use Rattle.chronicle.proofs.verdicts.FirstPlaces.{first_at, none_found, read_first}
use Rattle.chronicle.proofs.walk.Replayed.place_of_answer.Goals as goal

pub returns-in_default-clause-err : goal.returns-in_default-clause-err
returns-in_default-clause-err c = (
  refl,
  λ g found_it same. absurd
      (none_found (λ (g : Given). g.answer.to) c.args.answer.now.to c.args.self.now.given.items g
      (sym (c.requires c.args.answer.now.to) ∙ sym c.in_default.ensures.value) found_it),
)

pub index-given-requires : goal.index-given-requires
index-given-requires c =
    let first = first_at (λ (g : Given). g.answer.to) c.args.answer.now.to c.args.self.now.given.items
    c.in-Some.index.now (sym (c.requires c.args.answer.now.to) ∙ sym c.in-Some.ensures.value) in
    let within = first.within in
    search rules

pub returns-then-is_same-clause-ok : goal.returns-then-is_same-clause-ok
returns-then-is_same-clause-ok c =
    let given = c.index-given.result.now in
    let items = c.args.self.now.given.items in
    let first = first_at (λ (g : Given). g.answer.to) c.args.answer.now.to items c.in-Some.index.now
    (sym (c.requires c.args.answer.now.to) ∙ sym c.in-Some.ensures.value) in
    let at = slice_get_read items (length items) c.in-Some.index.now given refl first.within c.index-given.ensures in
    let same = c.is_same.ensures.0 c.if-is_same.true in
    subst (λ a. In (record { place = given.place; answer = a }) (map placed items)) same (In-map placed given items (In-get items c.in-Some.index.now given at))

pub returns-else-is_same-clause-err : goal.returns-else-is_same-clause-err
returns-else-is_same-clause-err c =
    let given = c.index-given.result.now in
    let items = c.args.self.now.given.items in
    let first = first_at (λ (g : Given). g.answer.to) c.args.answer.now.to items c.in-Some.index.now
    (sym (c.requires c.args.answer.now.to) ∙ sym c.in-Some.ensures.value) in
    let read = read_first (λ (g : Given). g.answer.to) c.args.answer.now.to items c.in-Some.index.now given first c.index-given.ensures in (
      refl,
      λ g found_it same.
          let one : Some given ≡ Some g = sym read.0 ∙ found_it in
          let is : given ≡ g = cc in
          let yes = c.is_same.ensures.1 (ap (λ (x : Given). x.answer) is ∙ same) in
          false≢true (sym c.if-is_same.false ∙ yes),
    )
