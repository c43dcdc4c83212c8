use Rattle.std.proofs.Common.{◌≡◌, ℕ, ◌<◌, ◌↔◌, ◌∙◌, length, slice_index, slice_set, sym, ap, subst, inl, inr, arith}
use Rattle.std.proofs.Common.{length-set, get_or-set_same, get_or-set_other}
use Rattle.std.proofs.lemmas.Bool.{cases_eq}
use Rattle.rotating_pick.specs.PortSets.{Has}
use Rattle.rotating_pick.specs.declared.kinds.Kind.{Kind}
use Rattle.eslip_rounds.specs.RankSteps.{level_at, kind_at, set_at}
use Rattle.eslip_rounds.specs.Steps.{IsUsed, MayAsk}
use Rattle.eslip_rounds.proofs.grants.ready_inputs.Goals as goal
use Rattle.eslip_rounds.proofs.grants.ready_inputs.Goals.{then-not-is_empty, else-not-is_empty}

pub loop-rank-preserved : goal.loop-rank-preserved
loop-rank-preserved c =
    let rank = c.loop-rank.rank in
    let known = c.loop-rank.invariant in
    let first_kind = c.args.first_kind in
    let matched = c.args.matched.now in
    let outputs = c.args.asks.now.outputs in
    let at = c.set_of.ensures.value in
    elim c.if-not-is_empty.branch [
      | then-not-is_empty w ↦
          let used : IsUsed c.args.asks.now (set_at first_kind rank) = λ none.
          let empty = c.is_empty.ensures.zero.1 (ap (slice_index outputs) at ∙ none) in absurd (cc) in
          let inside : rank < length c.loop-rank.ready.inputs = let long = known.long in omega arith in
          rw w.ready-is (record {
            long = length-set c.loop-rank.ready.inputs rank w.ready_at.result ∙ known.long;
            ranks = λ r.
                let e = w.with.ensures r in
                let k = known.ranks r in (
                  λ has. elim (e.0 has) [
                    | inl here ↦ let P : ℕ → Type 0 = λ x. IsUsed c.args.asks.now (set_at first_kind x) in (omega arith, subst P (sym here) used)
                    | inr old ↦ let p = k.0 old in ((let below = p.0 in omega arith), p.1)
                  ],
                  λ p. e.1 (elim (cases_eq r rank) [ inl here ↦ inl here | inr apart ↦ inr (k.1 ((let below = p.0 in omega arith), p.1)) ]),
                );
            inputs = λ r i has. elim (cases_eq r rank) [
              | inl here ↦
                  let same = get_or-set_same c.loop-rank.ready.inputs rank w.ready_at.result 0 inside in
                  let ready = w.ready_at.ensures i in
                  let P : ℕ → Type 0 = λ level. MayAsk matched level w.kind_of.result i in
                  let Q : Kind → Type 0 = λ kind. MayAsk matched (level_at rank) kind i in
                  let S : ℕ → Type 0 = λ s. Has s i in
                  let level_is = w.level_of.ensures.value in
                  let kind_is = w.kind_of.ensures in
                  let R : ℕ → Type 0 = λ x. Has (slice_index (slice_set c.loop-rank.ready.inputs rank w.ready_at.result) x) i
                  ↔ ((i < length matched) × MayAsk matched (level_at x) (kind_at first_kind x) i) in
                  subst R (sym here) (
                    λ h. let p = ready.0 (subst S same h) in (p.0, subst Q kind_is (subst P level_is p.1)),
                    λ p. subst S (sym same) (ready.1 (p.0, subst P (sym level_is) (subst Q (sym kind_is) p.1))),
                  )
              | inr apart ↦
                  let others = get_or-set_other c.loop-rank.ready.inputs rank r w.ready_at.result 0 apart in
                  let S : ℕ → Type 0 = λ s. Has s i in
                  let old : Has c.loop-rank.ready.ranks r = elim ((w.with.ensures r).0 has) [ inl here ↦ absurd (apart here) | inr was ↦ was ] in
                  let k = known.inputs r i old in
                  (λ h. k.0 (subst S others h), λ p. subst S (sym others) (k.1 p))
            ];
          })
      | else-not-is_empty w ↦
          let none : slice_index outputs (set_at first_kind rank) ≡ 0 = ap (slice_index outputs) (sym at) ∙ c.is_empty.ensures.zero.0 w.if-not-is_empty.false in
          rw w.ready-is (record {
            long = known.long;
            ranks = λ r.
                let k = known.ranks r in (
                  λ has. let p = k.0 has in ((let below = p.0 in omega arith), p.1),
                  λ p. elim (cases_eq r rank) [
                    | inl here ↦ let P : ℕ → Type 0 = λ x. slice_index outputs (set_at first_kind x) ≡ 0 in absurd (p.1 (subst P (sym here) none))
                    | inr apart ↦ k.1 ((let below = p.0 in omega arith), p.1)
                  ],
                );
            inputs = known.inputs;
          })
    ]
