-- A word that keeps the rule is a name, and another is none.
use Rattle.std.proofs.Common.{◌≡◌, inl, inr, List, ℕ, Option, Some, None, Ok, Err, IfOk, Result, refl, ap, sym, ◌∙◌}
use Rattle.std.specs.Option.{SomeIff}
use Rattle.bean_words.specs.Names.{IsName}
use Rattle.bean_codec.specs.TubeNames.{Decided, name_rule, name_of, word_if}

decided-holds : (word : List ℕ) (d : Decided (IsName word)) → IsName word → word_if word d ≡ Some word
decided-holds word (inl holds) name = refl
decided-holds word (inr fails) name = absurd (fails name)

decided-fails : (word : List ℕ) (d : Decided (IsName word)) → (IsName word → ⊥) → word_if word d ≡ None
decided-fails word (inl holds) none = absurd (none holds)
decided-fails word (inr fails) none = refl

-- the name that such a word is
pub name_of-name : (word : List ℕ) → IsName word → name_of word ≡ Some word
unfolding name_of
name_of-name word name = decided-holds word (name_rule word) name

pub name_of-none : (word : List ℕ) → (IsName word → ⊥) → name_of word ≡ None
unfolding name_of
name_of-none word none = decided-fails word (name_rule word) none

-- so what is the word where it keeps the rule, and nothing else, is the name
pub name_of-rule : (word : List ℕ) (r : Option (List ℕ)) → SomeIff r (IsName word) word → r ≡ name_of word
name_of-rule word (Some name) h = ap Some h.1 ∙ sym (name_of-name word h.0)
name_of-rule word None h = sym (name_of-none word h)

-- what was made of the word is then the name that it is
pub name_of-made : {E : Type 0} (word : List ℕ) (r : Result (Option (List ℕ)) E)
    → IfOk r (λ name. SomeIff name (IsName word) word) → IfOk r (λ name. name ≡ name_of word)
name_of-made word (Ok name) h = name_of-rule word name h
name_of-made word (Err e) h = tt
