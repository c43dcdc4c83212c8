use Rattle.std.proofs.Common.{◌≡◌, ◌≢◌, ◌∙◌, ℕ, ◌<◌, ◌↔◌, false, List, length, get_or, set, get_or-set_same, sym, ap, subst, refl, inl, inr, arith}
use Rattle.std.proofs.lemmas.Bool.{cases_eq, both_ways}
use Rattle.std.proofs.lemmas.Bool.Decides.{same_from_decides}
use Rattle.std.proofs.lemmas.List.{length-set}
use Rattle.std.proofs.lemmas.Option.{same_Some}
use Rattle.std_lemmas.proofs.Lists.{get-set_same, get-set_other}
use Rattle.rotating_pick.specs.PortSets.{Has}
use Rattle.slot_match.specs.declared.rows.Row.{Row}
use Rattle.slot_match.specs.Rows.{row_of}
use Rattle.eslip_rounds.specs.ColumnSteps.{with_set}
use Rattle.slot_histories.specs.Tests.{is_empty}
use Rattle.slot_histories.proofs.SetTests.{Decides-is_empty}
use Rattle.descriptor_runs.specs.PortSteps.{AreAsking}
use Rattle.descriptor_runs.proofs.requests.Requests.change_set.Goals as goal
use Rattle.descriptor_runs.proofs.requests.Requests.change_set.Goals.{then-is_empty, else-is_empty}

-- where one input's row is changed, and no other input is put in or out
changed : (rows : List Row) (asking after input : ℕ) (row : Row) → input < length rows → AreAsking rows asking
    → ((i : ℕ) → i ≢ input → Has after i ↔ Has asking i) → (Has after input ↔ (is_empty row ≡ false)) → AreAsking (set rows input row) after
changed rows asking after input row inside was others here =
    let there = get-set_same rows input row inside in
    record {
      size = let long = length-set rows input row in let size = was.size in omega arith;
      asks = λ i. elim (cases_eq i input) [
        | inl same ↦ rw same (
          λ has. (row, there, here.0 has),
          λ p. here.1 (ap is_empty (same_Some row p.0 (sym there ∙ p.1)) ∙ p.2),
        )
        | inr apart ↦
            let stays = get-set_other rows input i row apart in (
              λ has. let p = (was.asks i).0 ((others i apart).0 has) in (p.0, stays ∙ p.1, p.2),
              λ p. (others i apart).1 ((was.asks i).1 (p.0, sym stays ∙ p.1, p.2)),
            )
      ];
    }

pub invariant_of-self : goal.invariant_of-self
invariant_of-self c =
    let rows : List Row = c.self.inside.columns in
    let asking = c.self.inside.asking in
    let input = c.args.input in
    let row : Row = with_set (row_of rows input) c.args.level c.args.kind c.args.outputs in
    let inside : input < length rows = let same = ap length c.self.view_is in let below = c.requires.input_in in omega arith in
    let there : get_or c.rows.result.now input _ ≡ row =
    ap (λ (rs : List Row). get_or rs input _) (c.rows.ensures ∙ c.change_set.ensures) ∙ get_or-set_same rows input row _ inside in
    let test : c.is_empty.result ≡ is_empty row =
    same_from_decides c.is_empty.result (is_empty _) c.is_empty.ensures (Decides-is_empty _) ∙ ap is_empty there in
    subst (λ (rs : List Row). AreAsking rs c.if-is_empty.self) (sym c.change_set.ensures)
    (elim c.if-is_empty.branch [
      | then-is_empty w ↦
          let gone = w.without-self-inside.ensures.members in
          rw w.self-is (changed rows asking w.without-self-inside.result input row inside c.self.invariant
          (λ i apart. (λ has. ((gone i).0 has).1, λ has. (gone i).1 (apart, has)))
          (λ has. absurd (((gone input).0 has).0 refl), λ some. absurd (both_ways (is_empty row) some (sym test ∙ w.if-is_empty.true))))
      | else-is_empty w ↦
          let more = w.with-self-inside.ensures in
          rw w.self-is (changed rows asking w.with-self-inside.result input row inside c.self.invariant
          (λ i apart. (λ has. elim ((more i).0 has) [ inl same ↦ absurd (apart same) | inr old ↦ old ], λ has. (more i).1 (inr has)))
          (λ has. sym test ∙ w.if-is_empty.false, λ some. (more input).1 (inl refl)))
    ])
