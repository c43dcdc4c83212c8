-- Each input's part among the first outputs of a match, output by output.
use Rattle.std.proofs.Common.{◌≡◌, ℕ, ◌+◌, ◌<◌, ◌↔◌, ◌⊎◌, List, Option, None, Some, refl, sym, subst, inl, inr, arith}
use Rattle.std.proofs.lemmas.Bool.{cases_eq}
use Rattle.rotating_pick.specs.PortSets.{Has}
use Rattle.rotating_pick.specs.declared.kinds.Kind.{Kind}
use Rattle.rotating_pick.proofs.Bits.{no_member-zero}
use Rattle.slot_match.specs.declared.matching.Fed.{Fed}
use Rattle.slot_match.specs.declared.matching.Served.{Served}
use Rattle.slot_match.specs.Matches.{fed_of, Serves, IsServed, IsMatch}
use Rattle.slot_match.specs.Parts.{served_of}
use Rattle.slot_match.specs.Steps.{outputs_in, StandsBelow}
use Rattle.slot_match.proofs.Pairs.{Serves-from, Serves-alike, Serves-along, fed_of-lt}
use Rattle.slot_match.proofs.ServedParts.{served_of-free, served_of-only}

module _ (n : ℕ) (matched : List (Option Fed)) (whole : IsMatch n matched) where
  -- an input that the next output is not fed by stands as before
  pub StandsBelow-other : (k i : ℕ) (p : Option Served) → ((level : ℕ) (kind : Kind) → Serves matched i k level kind → ⊥) → StandsBelow matched k i p
      → StandsBelow matched (k + 1) i p
  StandsBelow-other k i None not before = λ j level kind below s. elim (cases_eq j k) [
    | inl same ↦ not level kind (subst (λ y. Serves matched i y level kind) same s)
    | inr other ↦ before j level kind (omega arith) s
  ]
  StandsBelow-other k i (Some part) not before =
      let earlier = λ (j level : ℕ) (kind : Kind) (below : j < k + 1) (s : Serves matched i j level kind). elim (cases_eq j k) as (λ _. j < k) [
        | inl same ↦ absurd (not level kind (subst (λ y. Serves matched i y level kind) same s))
        | inr other ↦ omega arith
      ] in
      record {
        some = before.some;
        outputs = λ j. (
          λ has. let p = (before.outputs j).0 has in (let lt = p.0 in omega arith, p.1),
          λ p. (before.outputs j).1 (earlier j part.level part.kind p.0 p.1, p.1),
        );
        only = λ j level kind below s. before.only j level kind (earlier j level kind below s) s;
      }

  -- the next output is added to the part of the input that feeds it
  pub StandsBelow-added : (k : ℕ) (p : Option Served) (f : Fed) (part : Served) → fed_of matched k ≡ Some f → part.level ≡ f.level → part.kind ≡ f.kind
      → ((j : ℕ) → Has part.outputs j ↔ ((j ≡ k) ⊎ Has (outputs_in p) j)) → StandsBelow matched k f.input p
      → StandsBelow matched (k + 1) f.input (Some part)
  StandsBelow-added k p f part fed level_is kind_is made before =
      let i = f.input in
      let there = Serves-from matched k f fed in
      let here : Serves matched i k part.level part.kind = Serves-along matched i k f.level part.level f.kind part.kind (sym level_is) (sym kind_is) there in
      let alike = Serves-alike n matched whole i k part.level part.kind here in
      record {
        some = (k, (made k).1 (inl refl));
        outputs = λ j. (
          λ has. elim ((made j).0 has) [
            | inl at ↦ (omega arith, subst (λ y. Serves matched i y part.level part.kind) (sym at) here)
            | inr old ↦ let q = held p before j old in
                (let lt = q.0 in omega arith, let a = alike j q.1 q.2 q.3 in Serves-along matched i j q.1 part.level q.2 part.kind a.0 a.1 q.3)
          ],
          λ q. (made j).1 (elim (cases_eq j k) [
            | inl at ↦ inl at
            | inr other ↦ inr
                (listed p before j part.level part.kind (let lt = q.0 in omega arith) q.1)
          ]),
        );
        only = λ j level kind below s. alike j level kind s;
      } where
        held : (o : Option Served) → StandsBelow matched k f.input o → (j : ℕ) → Has (outputs_in o) j → (j < k) × (level : ℕ) × (kind : Kind)
            × Serves matched f.input j level kind
        held None stands j has = absurd (no_member-zero j has)
        held (Some q) stands j has = let s = (stands.outputs j).0 has in (s.0, q.level, q.kind, s.1)

        listed : (o : Option Served) → StandsBelow matched k f.input o → (j level : ℕ) (kind : Kind) → j < k → Serves matched f.input j level kind
            → Has (outputs_in o) j
        listed None stands j level kind below s = absurd (stands j level kind below s)
        listed (Some q) stands j level kind below s = let a = stands.only j level kind below s in
            (stands.outputs j).1 (below, Serves-along matched f.input j level q.level kind q.kind a.0 a.1 s)

  -- among all outputs it is the input's part
  pub StandsBelow-all : (i : ℕ) (p : Option Served) → StandsBelow matched n i p → p ≡ served_of matched i
  StandsBelow-all i None stands =
      sym (served_of-free matched i (λ j level kind s. let lt = fed_of-lt matched j (record { input = i; level = level; kind = kind }) s in
      stands j level kind (let count = whole.count in omega arith) s))
  StandsBelow-all i (Some part) stands =
      let within : (j level : ℕ) (kind : Kind) → Serves matched i j level kind → j < n = λ j level kind s. let lt =
      fed_of-lt matched j (record { input = i; level = level; kind = kind }) s in let count = whole.count in omega arith in
      let served : IsServed matched i part = record {
        some = stands.some;
        outputs = λ j. (λ has. ((stands.outputs j).0 has).1, λ s. (stands.outputs j).1 (within j part.level part.kind s, s));
        only = λ j level kind s. stands.only j level kind (within j level kind s) s;
      } in
      sym (served_of-only n matched whole i part served)
