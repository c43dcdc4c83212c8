-- Outputs are fed one after the other by what they granted and inputs accepted.
use Rattle.std.proofs.Common.{◌≡◌, ◌≢◌, ◌∙◌, ◌+◌, ◌<◌, ◌≤◌, ◌↔◌, ◌⊎◌, ℕ, Bool, true, false, if◌then◌else◌, List, Option, None, Some, refl, sym, ap, subst, arith, inl, inr}
use Rattle.std.proofs.lemmas.Bool.{cases_eq, cases_lt, eqb-true}
use Rattle.std.proofs.lemmas.Option.{same_Some}
use Rattle.rotating_pick.specs.declared.kinds.Kind.{Kind}
use Rattle.rotating_pick.specs.declared.kinds.Kind.TheVariants.{Uni}
use Rattle.slot_match.specs.declared.matching.Fed.{Fed}
use Rattle.rotating_pick.specs.PortSets.{Has}
use Rattle.rotating_pick.proofs.Bits.{no_member-zero}
use Rattle.slot_match.specs.Matches.{IsFreeInput, IsFreeOutput, IsMatch, MayAdd, fed_of}
use Rattle.random_picks.specs.PickSteps.{pick_at}
use Rattle.random_picks.specs.Rounds.{fed_by, is_port}

pub is_port-some : (x : ℕ) (o : Option ℕ) → is_port x o ≡ true → o ≡ Some x
is_port-some x None is = absurd cc
is_port-some x (Some y) is = ap (λ (z : ℕ). Some z) (eqb-true y x is)

-- a round feeds an output as before, or by the input that it granted and that accepted it
pub fed_by-cases : (accepts : ℕ → Option ℕ) (j : ℕ) (before : Option Fed) (grant : Option ℕ) (f : Fed) → fed_by accepts j before grant ≡ Some f
    → (Kind → (x : ℕ) → grant ≡ Some x → accepts x ≡ Some j → f ≡ record { input = x; level = 0; kind = Uni } → ⊥) → before ≡ Some f
fed_by-cases accepts j before None f is new = is
fed_by-cases accepts j before (Some x) f is new = go (is_port j (accepts x)) refl is
  where
    go : (b : Bool) → is_port j (accepts x) ≡ b → (if b then Some (record { input = x; level = 0; kind = Uni }) else before) ≡ Some f → before ≡ Some f
    go true same fed = absurd (new Uni x refl (is_port-some j (accepts x) same) (sym (same_Some (record { input = x; level = 0; kind = Uni }) f fed)))
    go false other fed = fed

-- the first k outputs have been fed, and the others are as before
pub record AreFed (n k : ℕ) (granted accepted : List (Option ℕ)) (before now : List (Option Fed)) : Type 0 where
  pub whole : IsMatch n now
  pub fed : (j : ℕ) → j < k → fed_of now j ≡ fed_by (pick_at accepted) j (fed_of before j) (pick_at granted j)
  pub rest : (j : ℕ) → k ≤ j → fed_of now j ≡ fed_of before j

-- an input that was free and that accepts output k is still free
pub still-free : (n k : ℕ) (granted accepted : List (Option ℕ)) (before now : List (Option Fed)) → AreFed n k granted accepted before now
    → (i : ℕ) → IsFreeInput before i → pick_at accepted i ≡ Some k → IsFreeInput now i
still-free n k granted accepted before now known i free accepts j level kind serves = elim (cases_lt j k) [
  | inl below ↦ free j level kind (fed_by-cases (pick_at accepted) j (fed_of before j) (pick_at granted j)
      (record { input = i; level = level; kind = kind }) (sym (known.fed j below) ∙ serves)
      (λ _ x grants also is.
      let same : i ≡ x = ap (λ (f : Fed). f.input) is in
      let at : k ≡ j = same_Some k j (sym accepts ∙ (ap (pick_at accepted) same ∙ also)) in
      omega (arith, at, below)))
  | inr above ↦ free j level kind (sym (known.rest j above) ∙ serves)
]

pub AreFed-first : (n : ℕ) (granted accepted : List (Option ℕ)) (before : List (Option Fed)) → IsMatch n before → AreFed n 0 granted accepted before before
AreFed-first n granted accepted before whole = record { whole = whole; fed = λ j below. absurd (omega (arith, below)); rest = λ j above. refl }

pub AreFed-next : (n k : ℕ) (granted accepted : List (Option ℕ)) (before now next : List (Option Fed)) → AreFed n k granted accepted before now
    → IsMatch n next → fed_of next k ≡ fed_by (pick_at accepted) k (fed_of now k) (pick_at granted k)
    → ((j : ℕ) → j ≢ k → fed_of next j ≡ fed_of now j) → AreFed n (k + 1) granted accepted before next
AreFed-next n k granted accepted before now next known whole fed others = record {
  whole = whole;
  fed = λ j below. elim (cases_eq j k) [
    | inl same ↦
        let at_k : fed_of next k ≡ fed_by (pick_at accepted) k (fed_of before k) (pick_at granted k) =
        fed ∙ ap (λ (f : Option Fed). fed_by (pick_at accepted) k f (pick_at granted k)) (known.rest k (omega arith)) in
        rw same at_k
    | inr other ↦ others j other ∙ known.fed j (omega (arith, below, other))
  ];
  rest = λ j above. others j (λ e. omega (arith, e, above)) ∙ known.rest j (omega (arith, above));
}

-- a free input may be matched with a free output
pub MayAdd-one : (n : ℕ) (matched : List (Option Fed)) (i j outputs : ℕ) → ((y : ℕ) → Has outputs y ↔ ((y ≡ j) ⊎ Has 0 y)) → j < n
    → IsFreeInput matched i → IsFreeOutput matched j → MayAdd n matched i outputs 0 Uni
MayAdd-one n matched i j outputs one inside input output = record {
  some = (j, (one j).1 (inl refl));
  free = λ y has. (subst (λ (k : ℕ). k < n) (sym (only y has)) inside, subst (IsFreeOutput matched) (sym (only y has)) output);
  one = λ _ y z has also. only y has ∙ sym (only z also);
  ready = inl input;
}
  where
    only : (y : ℕ) → Has outputs y → y ≡ j
    only y has = elim ((one y).0 has) [ inl is ↦ is | inr none ↦ absurd (no_member-zero y none) ]
