-- Tubes that are not paused.
use Rattle.std.proofs.Common.{◌≡◌, ℕ, true, false, cond, not, inl, inr, List, [], ◌∷◌, refl, sym, ap, ◌∙◌, true≢false}
use Rattle.object.specs.Lists.{In}
use Rattle.job_store.specs.LookUps.{is_among, not_paused}
use Rattle.job_store.proofs.least.Least.{among-member}

in-open : (paused tubes : List (List ℕ)) (tube : List ℕ) → In tube (not_paused paused tubes) → In tube tubes × (is_among tube paused ≡ false)
in-open paused [] tube i = absurd i
in-open paused (t ∷ ts) tube i =
    elim (is_among t paused) as (λ b. is_among t paused ≡ b
    → In tube (cond (not b) (t ∷ not_paused paused ts) (not_paused paused ts)) → In tube (t ∷ ts)
    × (is_among tube paused ≡ false)) [
      | true ↦ λ _ i. let h = in-open paused ts tube i in (inr h.0, h.1)
      | false ↦ λ e i. elim i as (λ _. In tube (t ∷ ts) × (is_among tube paused ≡ false)) [
        | inl same ↦ (inl same, ap (λ n. is_among n paused) same ∙ e)
        | inr more ↦ let h = in-open paused ts tube more in (inr h.0, h.1)
      ]
    ] refl i

open-in : (paused tubes : List (List ℕ)) (tube : List ℕ) → In tube tubes → is_among tube paused ≡ false → In tube (not_paused paused tubes)
open-in paused [] tube i apart = absurd i
open-in paused (t ∷ ts) tube i apart =
    elim (is_among t paused) as (λ b. is_among t paused ≡ b → In tube (cond (not b) (t ∷ not_paused paused ts) (not_paused paused ts))) [
      | true ↦ λ e. elim i as (λ _. In tube (not_paused paused ts)) [
        | inl same ↦ absurd (true≢false (sym e ∙ ap (λ n. is_among n paused) (sym same) ∙ apart))
        | inr more ↦ open-in paused ts tube more apart
      ]
      | false ↦ λ e. elim i as (λ _. In tube (t ∷ not_paused paused ts)) [ inl same ↦ inl same | inr more ↦ inr (open-in paused ts tube more apart) ]
    ] refl

pub open-watched : (paused tubes : List (List ℕ)) (tube : List ℕ) → is_among tube (not_paused paused tubes) ≡ true
    → (is_among tube tubes ≡ true) × (is_among tube paused ≡ false)
open-watched paused tubes tube t =
    let h = in-open paused tubes tube ((among-member tube (not_paused paused tubes)).0 t) in
    ((among-member tube tubes).1 h.0, h.1)

pub watched-open : (paused tubes : List (List ℕ)) (tube : List ℕ) → is_among tube tubes ≡ true
    → is_among tube paused ≡ false → is_among tube (not_paused paused tubes) ≡ true
watched-open paused tubes tube t apart = (among-member tube (not_paused paused tubes)).1 (open-in paused tubes tube ((among-member tube tubes).0 t) apart)

-- what is paused is not among them
pub paused-apart : (paused tubes : List (List ℕ)) (tube : List ℕ) → is_among tube paused ≡ true → false ≡ is_among tube (not_paused paused tubes)
paused-apart paused tubes tube is =
    elim (is_among tube (not_paused paused tubes)) as (λ b. is_among tube (not_paused paused tubes) ≡ b → false ≡ b) [
      | true ↦ λ t. absurd (true≢false (sym is ∙ (open-watched paused tubes tube t).1))
      | false ↦ λ _. refl
    ] refl

-- and what is not is so where it was
pub open-same : (paused tubes : List (List ℕ)) (tube : List ℕ) → is_among tube paused ≡ false → is_among tube tubes ≡ is_among tube (not_paused paused tubes)
open-same paused tubes tube apart =
    elim (is_among tube tubes) as (λ b. is_among tube tubes ≡ b → b ≡ is_among tube (not_paused paused tubes)) [
      | true ↦ λ t. sym (watched-open paused tubes tube t apart)
      | false ↦ λ f.
          elim (is_among tube (not_paused paused tubes)) as (λ b. is_among tube (not_paused paused tubes) ≡ b → false ≡ b) [
            | true ↦ λ t. absurd (true≢false (sym (open-watched paused tubes tube t).0 ∙ f))
            | false ↦ λ _. refl
          ] refl
    ] refl
