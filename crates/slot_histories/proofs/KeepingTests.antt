-- What the test of keeping tells: the new row keeps the old one, where both name none but the n ports.
use Rattle.std.proofs.Common.{◌≡◌, ◌↔◌, ℕ, zero, suc, ◌+◌, ◌<◌, ◌≤◌, ◌⊎◌, ◌==◌, ◌&&◌, ◌||◌, not, Bool, slice_index, Option, None, Some, refl, sym}
use Rattle.std.proofs.Common.{subst, arith, inl, inr}
use Rattle.std.specs.Bool.{Decides}
use Rattle.std.specs.List.{list_all, range_with_len}
use Rattle.std.proofs.lemmas.Bool.{cases_eq, and_parts, and_from}
use Rattle.std.proofs.lemmas.Bool.Decides.{Decides-eqb, Decides-like, Decides-and, Decides-or, Decides-not}
use Rattle.rotating_pick.specs.PortSets.{Has}
use Rattle.rotating_pick.specs.declared.kinds.Kind.{Kind}
use Rattle.rotating_pick.specs.declared.kinds.Kind.TheVariants.{Uni, Multi}
use Rattle.rotating_pick.specs.declared.limits.TheConstants.{LEVELS}
use Rattle.rotating_pick.proofs.Picking.{least}
use Rattle.slot_match.specs.declared.rows.Row.{Row}
use Rattle.slot_match.specs.declared.matching.Served.{Served}
use Rattle.slot_match.specs.Rows.{Names, IsWithin, IsOfLevels}
use Rattle.slot_match.specs.Keeping.{KeepsRest, KeepsLevel, Gives}
use Rattle.slot_match.proofs.Sets.{Has-set_of, Has-or, Has-same}
use Rattle.slot_match.proofs.KeepingSets.{KeepsLevel-at}
use Rattle.eslip_rounds.specs.Decisions.{is_kind, is_named}
use Rattle.eslip_rounds.proofs.Testing.{Decides-kind, Decides-named}
use Rattle.slot_histories.specs.Tests.{has, gives, rest_of, is_subset, keeps_level, keeps_rest}
use Rattle.slot_histories.proofs.SetTests.{Decides-has, Decides-is_subset, Decides-no_members}

-- a test of each number from a on tells of each
pub Decides-each : (test : ℕ → Bool) (P : ℕ → Type 0) → ((i : ℕ) → Decides (test i) (P i)) → (a n : ℕ)
    → Decides (list_all test (range_with_len a n)) ((i : ℕ) → a ≤ i → i < a + n → P i)
Decides-each test P tells a zero = (λ e i from below. absurd (omega arith), λ all. refl)
Decides-each test P tells a (suc n) =
    let rest = Decides-each test P tells (a + 1) n in (
      λ e i from below.
          let parts = and_parts (test a) (list_all test (range_with_len (a + 1) n)) e in
          elim (cases_eq i a) [ inl is ↦ subst P (sym is) ((tells a).0 parts.0) | inr other ↦ rest.0 parts.1 i (omega arith) (omega arith) ],
      λ all. and_from (test a) (list_all test (range_with_len (a + 1) n)) ((tells a).1 (all a (omega arith) (omega arith)))
          (rest.1 (λ i from below. all i (omega arith) (omega arith))),
    )

pub Decides-gives : (served : Option Served) (j level : ℕ) (kind : Kind) → Decides (gives served j level kind) (Gives served j level kind)
unfolding gives
Decides-gives None j level kind = (λ e. absurd (cc), λ given. absurd given)
Decides-gives (Some served) j level kind =
    Decides-like (has served.outputs j && (level == served.level) && is_kind kind served.kind) (λ p. (p.0.0, p.0.1, p.1)) (λ g. ((g.0, g.1), g.2))
    (Decides-and (has served.outputs j && (level == served.level)) (is_kind kind served.kind)
    (Decides-and (has served.outputs j) (level == served.level) (Decides-has served.outputs j) (Decides-eqb level served.level))
    (Decides-kind kind served.kind))

-- what is left of a head of the level, if anything is, is the new head
abbrev IsHeadKept : Option Served → Row → Row → ℕ → Type 0
IsHeadKept served old new level = (j : ℕ) → Names old level Multi j → (Gives served j level Multi → ⊥) → (y : ℕ) → Names new level Multi y
    ↔ (Names old level Multi y × (Gives served y level Multi → ⊥))

module _ (n : ℕ) (served : Option Served) (old : Row) (within : IsWithin n old) where
  -- the rest has the outputs that the old row names and the part does not serve
  Has-rest_of : (level : ℕ) (kind : Kind) (j : ℕ) → Has (rest_of n served old level kind) j ↔ (Names old level kind j × (Gives served j level kind → ⊥))
  unfolding rest_of
  Has-rest_of level kind j =
      let of = Has-set_of n (λ k. is_named old level kind k && not (gives served k level kind)) j in
      let tells : Decides (is_named old level kind j && not (gives served j level kind)) (Names old level kind j × (Gives served j level kind → ⊥)) =
      Decides-and (is_named old level kind j) (not (gives served j level kind)) (Decides-named old level kind j)
      (Decides-not (gives served j level kind) (Decides-gives served j level kind)) in
      (λ member. tells.0 (of.0 member).1, λ p. of.1 (within level j kind p.0, tells.1 p))

  rest_within : (level : ℕ) (kind : Kind) (j : ℕ) → Has (rest_of n served old level kind) j → j < n
  rest_within level kind j member = within level j kind ((Has-rest_of level kind j).0 member).0

  head_from : (new : Row) (level : ℕ) → ((j : ℕ) → Has (rest_of n served old level Multi) j → ⊥)
      ⊎ (slice_index new.multi level ≡ rest_of n served old level Multi) → IsHeadKept served old new level
  head_from new level (inl none) j named unserved y = absurd (none j ((Has-rest_of level Multi j).1 (named, unserved)))
  head_from new level (inr same) j named unserved y =
      let rest = Has-rest_of level Multi y in
      (λ stands. rest.0 (subst (λ ports. Has ports y) same stands), λ p. subst (λ ports. Has ports y) (sym same) (rest.1 p))

  head_or_none : (new : Row) (level : ℕ) → IsHeadKept served old new level → ((j : ℕ) → Has (rest_of n served old level Multi) j → ⊥)
      ⊎ (slice_index new.multi level ≡ rest_of n served old level Multi)
  head_or_none new level head =
      let rest = rest_of n served old level Multi in
      elim (least (Has rest) (Has-or rest) n) [
        | inl found ↦
            let left = (Has-rest_of level Multi found.0).0 found.2 in
            inr (Has-same (slice_index new.multi level) rest (λ y.
            let now = head found.0 left.0 left.1 y in
            let of = Has-rest_of level Multi y in
            (λ stands. of.1 (now.0 stands), λ member. now.1 (of.0 member))))
        | inr none ↦ inl (λ j member. none j (rest_within level Multi j member) member)
      ]

  Decides-keeps_level : (new : Row) (level : ℕ) → Decides (keeps_level n served old new level) (KeepsLevel (Gives served) old new level)
  unfolding keeps_level
  Decides-keeps_level new level =
      let unis = rest_of n served old level Uni in
      let rest = rest_of n served old level Multi in
      let uni = Decides-is_subset n unis (slice_index new.uni level) (rest_within level Uni) in
      let multi = Decides-or (rest == 0) (slice_index new.multi level == rest) (Decides-no_members rest) (Decides-eqb (slice_index new.multi level) rest) in
      Decides-like (is_subset n unis (slice_index new.uni level) && ((rest == 0) || (slice_index new.multi level == rest)))
      (λ both. record {
        uni = λ j named unserved. both.0 j ((Has-rest_of level Uni j).1 (named, unserved));
        multi = head_from new level both.1;
      })
      (λ keeps. (λ j member. let left = (Has-rest_of level Uni j).0 member in keeps.uni j left.0 left.1, head_or_none new level keeps.multi))
      (Decides-and (is_subset n unis (slice_index new.uni level)) ((rest == 0) || (slice_index new.multi level == rest)) uni multi)

  pub Decides-keeps_rest : IsOfLevels old → (new : Row) → Decides (keeps_rest n served old new) (KeepsRest (Gives served) old new)
  unfolding keeps_rest
  Decides-keeps_rest levels new =
      Decides-like (list_all (keeps_level n served old new) (range_with_len 0 LEVELS))
      (λ each. record {
        uni = λ level j named. (each level (omega arith) (omega (arith, levels level j Uni named))).uni j named;
        multi = λ level j named. (each level (omega arith) (omega (arith, levels level j Multi named))).multi j named;
      })
      (λ keeps level from below. KeepsLevel-at (Gives served) old new level keeps)
      (Decides-each (keeps_level n served old new) (KeepsLevel (Gives served) old new) (Decides-keeps_level new) 0 LEVELS)
