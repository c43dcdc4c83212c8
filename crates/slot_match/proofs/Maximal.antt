-- A match is maximal where no input wants an output that is free.
use Rattle.std.proofs.Common.{◌≡◌, ℕ, ◌<◌, ◌↔◌, ◌∙◌, List, Option, refl, sym, subst, inl, inr}
use Rattle.rotating_pick.specs.PortSets.{Has}
use Rattle.rotating_pick.specs.declared.kinds.Kind.TheVariants.{Multi}
use Rattle.rotating_pick.specs.declared.limits.TheConstants.{LEVELS}
use Rattle.slot_match.specs.declared.rows.Row.{Row}
use Rattle.slot_match.specs.declared.matching.Fed.{Fed}
use Rattle.slot_match.specs.declared.matching.Served.{Served}
use Rattle.slot_match.specs.Rows.{row_of, Names}
use Rattle.slot_match.specs.Matches.{IsFreeOutput, IsMulticasting, IsServed, IsMatch, IsMaximal}
use Rattle.slot_match.specs.Steps.{Wants}
use Rattle.slot_match.proofs.Pairs.{Serves-along}

module _ (n : ℕ) (rows : List Row) (matched : List (Option Fed)) (free_outputs : ℕ)
    (outputs_left : (j : ℕ) → Has free_outputs j ↔ ((j < n) × IsFreeOutput matched j)) where
  pub IsMaximal-from : ((i j : ℕ) → i < n → Wants matched i (row_of rows i) j → Has free_outputs j → ⊥) → IsMaximal n rows matched
  IsMaximal-from none =
      record {
        free = λ i j level kind i_in j_in free vacant named. none i j i_in (inl (free, (level, kind, named))) ((outputs_left j).1 (j_in, vacant));
        going_on = λ i j level i_in j_in on vacant named. none i j i_in (inr (level, on, named)) ((outputs_left j).1 (j_in, vacant));
      }

-- a part is at one of the four levels
pub IsServed-level : (n : ℕ) (matched : List (Option Fed)) → IsMatch n matched → (i : ℕ) (part : Served) → IsServed matched i part → part.level < LEVELS
IsServed-level n matched whole i part served =
    whole.level_in i served.some.0 part.level part.kind ((served.outputs served.some.0).0 served.some.1)

-- an input that is served wants the rest of its head where its part is of multicast, and nothing else
pub Wants-iff_rest : (matched : List (Option Fed)) (i : ℕ) (part : Served) (row : Row) → IsServed matched i part → (j : ℕ)
    → Wants matched i row j ↔ ((part.kind ≡ Multi) × Names row part.level Multi j)
Wants-iff_rest matched i part row served j =
    let there = (served.outputs served.some.0).0 served.some.1 in (
      λ wants. elim wants [
        | inl p ↦ absurd (p.0 served.some.0 part.level part.kind there)
        | inr p ↦ let only = served.only p.1.some.0 p.0 Multi p.1.some.1 in (sym only.1, subst (λ level. Names row level Multi j) only.0 p.2)
      ],
      λ p.
          let on : IsMulticasting matched i part.level = record {
            some = (served.some.0, Serves-along matched i served.some.0 part.level part.level part.kind Multi refl p.0 there);
            only = λ k level kind s. let only = served.only k level kind s in (only.0, only.1 ∙ p.0);
          } in
          inr (part.level, on, p.1),
    )
