-- What a filter remembers of one command more.
use Rattle.std.proofs.Common.{◌≡◌, ℕ, Bool, true, false, cond, not, ◌&&◌, ◌||◌, List, [], ◌∷◌, Option, Some, None}
use Rattle.std.proofs.Common.{nat_lt, ◌==◌, refl, sym, ap, ◌∙◌, arith, ltb-true, lt-ltb, eqb-true}
use Rattle.std.proofs.lemmas.Bool.{true≢false, ltb-false, le-ltb}
use Rattle.std.specs.Cmp.{unsigned_tied, eq_by_cmp_equiv}
use Rattle.std.proofs.lemmas.Cmp.{nat_cmp_total}
use Rattle.std.specs.Ordering.{nat_cmp, eq_by_cmp}
use Rattle.std.specs.FinMap.{empty, get, get-empty, get-insert}
use Rattle.object.specs.declared.command.Command.{Command}
use Rattle.object.specs.OnceOnly.{LatestNumbers, Remembers, is_above, is_later, noted}

-- a number above one that is later than the latest is later too
above_more : (on : Option ℕ) (c d : ℕ) → is_above on c ≡ true → nat_lt c d ≡ true → is_above on d ≡ true
above_more None c d later more = refl
above_more (Some latest) c d later more =
    let p = ltb-true latest c later in let q = ltb-true c d more in lt-ltb latest d (Prim.grind (arith))

done_same : (more : Bool) (on : Option ℕ) (c d : ℕ) → nat_lt c d ≡ more → is_above on c ≡ true → more ≡ more && is_above on d
done_same true on c d is later = sym (above_more on c d later is)
done_same false on c d is later = refl

stale_same : (more : Bool) (on : Option ℕ) (c d : ℕ) → nat_lt c d ≡ more → is_above on c ≡ false → is_above on d ≡ more && is_above on d
stale_same true on c d is stale = refl
stale_same false None c d is stale = absurd (true≢false stale)
stale_same false (Some latest) c d is stale =
    let p = ltb-false latest c stale in let q = ltb-false c d is in le-ltb latest d (Prim.grind (arith))

done_at : (same : Bool) (c d : ℕ) (on_c on_d : Option ℕ) → (same ≡ true → on_d ≡ on_c) → is_above on_c c ≡ true →
    is_above (cond same (Some c) on_d) d ≡ (not same || nat_lt c d) && is_above on_d d
done_at true c d on_c on_d alike later = done_same (nat_lt c d) on_d c d refl (ap (λ o. is_above o c) (alike refl) ∙ later)
done_at false c d on_c on_d alike later = refl

stale_at : (same : Bool) (c d : ℕ) (on_c on_d : Option ℕ) → (same ≡ true → on_d ≡ on_c) → is_above on_c c ≡ false →
    is_above on_d d ≡ (not same || nat_lt c d) && is_above on_d d
stale_at true c d on_c on_d alike stale = stale_same (nat_lt c d) on_d c d refl (ap (λ o. is_above o c) (alike refl) ∙ stale)
stale_at false c d on_c on_d alike stale = refl

pub remembers_none : {Op : Type 0} → Remembers {Op = Op} empty []
remembers_none c = ap (λ o. is_above o c.key.number) (get-empty nat_cmp c.key.session)

pub remembers_done : {Op : Type 0} (latest : LatestNumbers) (earlier : List (Command Op)) (c : Command Op)
    → Remembers latest earlier → is_later c.key latest ≡ true → Remembers (noted c.key latest) (c ∷ earlier)
remembers_done latest earlier c knows later d =
    let s = c.key.session in
    let q = d.key.session in
    ap (λ o. is_above o d.key.number) (get-insert nat_cmp_total latest s c.key.number q) ∙
    ap (λ b. is_above (cond b (Some c.key.number) (get latest q)) d.key.number) (tied q s) ∙
    done_at (s == q) c.key.number d.key.number (get latest s) (get latest q) (λ e. ap (get latest) (sym (eqb-true s q e))) later ∙
    ap (λ b. (not (s == q) || nat_lt c.key.number d.key.number) && b) (knows d)
  where
    tied : (q s : ℕ) → eq_by_cmp nat_cmp q s ≡ (s == q)
    tied q s = (eq_by_cmp_equiv nat_cmp_total).symm q s ∙ unsigned_tied s q

pub remembers_stale : {Op : Type 0} (latest : LatestNumbers) (earlier : List (Command Op)) (c : Command Op)
    → Remembers latest earlier → is_later c.key latest ≡ false → Remembers latest (c ∷ earlier)
remembers_stale latest earlier c knows stale d =
    let s = c.key.session in
    let q = d.key.session in
    stale_at (s == q) c.key.number d.key.number (get latest s) (get latest q) (λ e. ap (get latest) (sym (eqb-true s q e))) stale ∙
    ap (λ b. (not (s == q) || nat_lt c.key.number d.key.number) && b) (knows d)
