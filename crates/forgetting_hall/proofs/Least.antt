-- The least slot that some node hasn't performed yet, found node by node.
use Rattle.std.proofs.Common.{◌≡◌, ◌≤◌, ◌+◌, ◌⊎◌, ⊎_elim, inl, inr, ℕ, Bool, true, false, length, min, refl, sym, ◌∙◌, subst, arith}
use Rattle.std.specs.Prelude.{nat_le}
use Rattle.std.proofs.lemmas.Bool.{cases_eq}
use Rattle.std.proofs.lemmas.Bool.Decides.{nat_tests}
use Rattle.object.specs.Objects.{Rules}
use Rattle.ballot.specs.Members.{is_member}
use Rattle.lean_network.specs.LeanNetworks.{lean_node_of}
use Rattle.forgetting_hall.specs.Halls.{ForgettingState, IsLeastOut}

-- the same of the nodes up to one
pub record IsLeastTo {O Op Reply : Type 0} (rules : Rules O Op Reply) (h : ForgettingState Op O Reply) (count slot : ℕ) : Type 0 where
  pub node : ℕ
  pub member : is_member h.network.members node ≡ true
  pub out : (lean_node_of rules h.network node).state.replica.slot_out ≡ slot
  pub least : (n : ℕ) → 1 ≤ n → n ≤ count → slot ≤ (lean_node_of rules h.network n).state.replica.slot_out

pub is_member_at : (members : _) (n : ℕ) → 1 ≤ n → n ≤ length members → is_member members n ≡ true
is_member_at members n low high = grind (arith, nat_tests, low, high)

smaller : (a b : ℕ) → ((min a b ≡ a) × (a ≤ b)) ⊎ ((min a b ≡ b) × (b ≤ a))
smaller a b = at (nat_le a b) refl
  where
    at : (t : Bool) → nat_le a b ≡ t → ((min a b ≡ a) × (a ≤ b)) ⊎ ((min a b ≡ b) × (b ≤ a))
    at true e = let h : a ≤ b = grind (arith, nat_tests, e) in inl (omega (arith, h), h)
    at false e = let h : b ≤ a = grind (arith, nat_tests, e) in inr (omega (arith, h), h)

module _ {O Op Reply : Type 0} (rules : Rules O Op Reply) (h : ForgettingState Op O Reply) where
  pub least_first : (slot : ℕ) → is_member h.network.members 1 ≡ true → slot ≡ (lean_node_of rules h.network 1).state.replica.slot_out →
      IsLeastTo rules h 1 slot
  least_first slot member is = record {
    node = 1;
    member = member;
    out = sym is;
    least = λ n low high. let same : n ≡ 1 = omega (arith, low, high) in
        subst (λ m. slot ≤ (lean_node_of rules h.network m).state.replica.slot_out) (sym same) (omega (arith, is));
  }

  pub least_more : (count slot out : ℕ) → IsLeastTo rules h count slot → is_member h.network.members (count + 1) ≡ true
      → out ≡ (lean_node_of rules h.network (count + 1)).state.replica.slot_out → IsLeastTo rules h (count + 1) (min slot out)
  least_more count slot out least member is = ⊎_elim
      (λ (e : (min slot out ≡ slot) × (slot ≤ out)). record {
        node = least.node;
        member = least.member;
        out = least.out ∙ sym e.0;
        least = λ n low high. ⊎_elim
            (λ (f : n ≤ count). let l = least.least n low f in let g = e.0 in omega (arith, l, g))
            (λ (f : n ≡ count + 1). subst (λ m. min slot out ≤ (lean_node_of rules h.network m).state.replica.slot_out) (sym f)
            (let a = e.0 in let b = e.1 in omega (arith, a, b, is)))
            (last n high);
      })
      (λ (e : (min slot out ≡ out) × (out ≤ slot)). record {
        node = count + 1;
        member = member;
        out = sym is ∙ sym e.0;
        least = λ n low high. ⊎_elim
            (λ (f : n ≤ count). let l = least.least n low f in let a = e.0 in let b = e.1 in omega (arith, l, a, b))
            (λ (f : n ≡ count + 1). subst (λ m. min slot out ≤ (lean_node_of rules h.network m).state.replica.slot_out) (sym f)
            (let a = e.0 in omega (arith, a, is)))
            (last n high);
      })
      (smaller slot out)
    where
      last : (n : ℕ) → n ≤ count + 1 → (n ≤ count) ⊎ (n ≡ count + 1)
      last n high = ⊎_elim (λ (e : n ≡ count + 1). inr e) (λ e. inl (omega (arith, high, e))) (cases_eq n (count + 1))

  pub least_all : (count slot : ℕ) → length h.network.members ≤ count → IsLeastTo rules h count slot → IsLeastOut rules h slot
  least_all count slot all least = record {
    node = least.node;
    member = least.member;
    out = least.out;
    least = λ n member. let b = bounds n member in let high = b.1 in least.least n b.0 (omega (arith, all, high));
  }
    where
      bounds : (n : ℕ) → is_member h.network.members n ≡ true → (1 ≤ n) × (n ≤ length h.network.members)
      bounds n member = (grind (arith, nat_tests), grind (arith, nat_tests))
