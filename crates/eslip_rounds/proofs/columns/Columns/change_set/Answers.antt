use Rattle.std.proofs.Common.{◌≡◌, ◌≢◌, ℕ, ◌<◌, ◌↔◌, ◌∙◌, List, [], length, slice_index, slice_index_or, slice_set, take, sym, ap, subst, inl, inr, arith}
use Rattle.std.proofs.Common.{length-set, get_or-set_same, get_or-set_other}
use Rattle.std.proofs.Math.Seq.{take-set-lt}
use Rattle.std.proofs.lemmas.Bool.{cases_eq}
use Rattle.rotating_pick.specs.PortSets.{Has}
use Rattle.rotating_pick.specs.declared.kinds.Kind.{Kind}
use Rattle.rotating_pick.specs.declared.kinds.Kind.TheVariants.{Uni}
use Rattle.slot_match.specs.declared.rows.Row.{Row}
use Rattle.slot_match.specs.Rows.{Names, sets_of, row_of}
use Rattle.eslip_rounds.specs.RankSteps.{level_at, kind_at, rank_of}
use Rattle.eslip_rounds.specs.ColumnSteps.{with_set, IsKeptSet}
use Rattle.eslip_rounds.proofs.RankLemmas.{level_at-rank_of, kind_at-rank_of, rank_of-at}
use Rattle.eslip_rounds.proofs.Filling.{Names-at}
use Rattle.eslip_rounds.proofs.Keeping.{Names-set, IsKeptSet-along, with_set-others, row_of-take, length-seen}
use Rattle.eslip_rounds.proofs.columns.Columns.change_set.Goals as goal

-- the input is one of the switch's
input_in : (n input : ℕ) (rows seen : List Row) → take n rows ≡ seen → input < length seen → length (take n rows) ≡ n → input < n
input_in n input rows seen is below long = let same = ap length is in omega arith

-- in its own set it names the new outputs
names_new : (new : Row) (level : ℕ) (kind : Kind) (outputs set : ℕ) → slice_index (sets_of new kind) level ≡ outputs → set ≡ rank_of Uni level kind
    → (j : ℕ) → Has outputs j ↔ Names new (level_at set) (kind_at Uni set) j
names_new new level kind outputs set is set_is j =
    let named = Names-at new set level j kind (sym (ap level_at set_is ∙ level_at-rank_of Uni level kind))
    (sym (ap (kind_at Uni) set_is ∙ kind_at-rank_of Uni level kind)) in
    let P : ℕ → Type 0 = λ s. Has s j in
    (λ has. named.0 (subst P (sym is) has), λ h. subst P is (named.1 h))

pub invariant_of-self : goal.invariant_of-self
invariant_of-self c =
    let inside = c.self.inside in
    let n = inside.ports in
    let input = c.args.input in
    let kept = c.self.invariant in
    let rows : List Row = inside.rows in
    let row : Row = c.put_set.new.row in
    let set = c.set_at_level-set.result in
    let set_is = c.set_at_level-set.ensures.value in
    let set_in = c.set_at_level-set.ensures.set_in in
    let columns = inside.asks.columns in
    let words = inside.asks.outputs in
    let table = c.turn.new.columns in
    let named = c.turn.new.outputs in
    let below : input < n = input_in n input rows c.args.self.now c.self.view_is c.requires.input_in (length-seen n rows kept.size kept.long) in
    let inside_rows : input < length rows = let long = kept.long in let size = kept.size in omega arith in
    let later = slice_set rows input row in
    let names = names_new row c.args.level c.args.kind c.args.outputs set c.put_set.ensures.set set_is in
    -- in its own set the input's bits are turned,
    let turned : IsKeptSet n later set table named = record {
      long = c.turn.ensures.long;
      columns = λ i j j_in.
          let e = c.turn.ensures.columns i j j_in in
          let k = (kept.each set set_in).columns i j j_in in
          let r = Names-set rows input row inside_rows i j (level_at set) (kind_at Uni set) in (
            λ has. elim (e.0 has) [
              | inl mine ↦ (let same = mine.0 in omega arith, r.1 (inl (mine.0, (names j).0 mine.1)))
              | inr other ↦ let p = k.0 other.1 in (p.0, r.1 (inr (other.0, p.1)))
            ],
            λ p. e.1 (elim (r.0 p.1) [ inl mine ↦ inl (mine.0, (names j).1 mine.1) | inr other ↦ inr (other.0, k.1 (p.0, other.1)) ]),
          );
      outputs = c.turn.ensures.outputs;
    } in
    -- and another set is of another level or kind, where the new row names what the old one did
    let same : (s : ℕ) → s ≢ set
    → slice_index (sets_of row (kind_at Uni s)) (level_at s) ≡ slice_index (sets_of (row_of rows input) (kind_at Uni s)) (level_at s) = λ s apart.
    ap (λ (r : Row). slice_index (sets_of r (kind_at Uni s)) (level_at s)) c.put_set.ensures.row
    ∙ with_set-others (row_of rows input) c.args.level c.args.kind c.args.outputs (level_at s) (kind_at Uni s)
    (λ l k. apart (sym (rank_of-at Uni s) ∙ (ap (λ x. rank_of Uni x (kind_at Uni s)) l ∙ (ap (rank_of Uni c.args.level) k ∙ sym set_is)))) in
    let at : ℕ → List ℕ → ℕ → Type 0 = λ s t word. IsKeptSet n later s t word in
    record {
      some = kept.some;
      size = kept.size;
      long = length-set rows input row ∙ kept.long;
      sets = length-set columns set table ∙ kept.sets;
      words = length-set words set named ∙ kept.words;
      each = λ s s_in. elim (cases_eq s set) [
        | inl here ↦
            let first = get_or-set_same columns set table [] (let long = kept.sets in omega arith) in
            let word = get_or-set_same words set named 0 (let long = kept.words in omega arith) in
            subst (λ x. at x (slice_index_or (slice_set columns set table) x []) (slice_index (slice_set words set named) x)) (sym here)
            (subst (λ y. at set (slice_index_or (slice_set columns set table) set []) y) (sym word) (subst (λ (t : List ℕ). at set t named) (sym first) turned))
        | inr apart ↦
            let stays : (i j : ℕ) → Names (row_of later i) (level_at s) (kind_at Uni s) j ↔ Names (row_of rows i) (level_at s) (kind_at Uni s) j = λ i j.
            let r = Names-set rows input row inside_rows i j (level_at s) (kind_at Uni s) in (
              λ has. elim (r.0 has) [
                | inl mine ↦ subst (λ x. Names (row_of rows x) (level_at s) (kind_at Uni s) j) (sym mine.0) (subst (λ y. Has y j) (same s apart) mine.1)
                | inr other ↦ other.1
              ],
              λ has. r.1 (elim (cases_eq i input) [
                | inl here ↦ inl (
                  here,
                  subst (λ y. Has y j) (sym (same s apart)) (subst (λ x. Names (row_of rows x) (level_at s) (kind_at Uni s) j) here has),
                )
                | inr other ↦ inr (other, has)
              ]),
            ) in
            let old = IsKeptSet-along n rows later s (slice_index_or columns s []) (slice_index words s) stays (kept.each s s_in) in
            subst (λ y. at s (slice_index_or (slice_set columns set table) s []) y) (sym (get_or-set_other words set s named 0 apart))
            (subst (λ (t : List ℕ). at s t (slice_index words s)) (sym (get_or-set_other columns set s table [] apart)) old)
      ];
    }

pub returns : goal.returns
returns c =
    let inside = c.self.inside in
    let n = inside.ports in
    let input = c.args.input in
    let rows : List Row = inside.rows in
    let seen : List Row = c.args.self.now in
    let row : Row = c.put_set.new.row in
    let kept = c.self.invariant in
    let below : input < n = input_in n input rows seen c.self.view_is c.requires.input_in (length-seen n rows kept.size kept.long) in
    let there : row_of rows input ≡ row_of seen input = sym (row_of-take n rows input below) ∙ ap (λ (rs : List Row). row_of rs input) c.self.view_is in
    take-set-lt n rows input row below
    ∙ (ap (λ (rs : List Row). slice_set rs input row) c.self.view_is
    ∙ ap (slice_set seen input) (c.put_set.ensures.row ∙ ap (λ (r : Row). with_set r c.args.level c.args.kind c.args.outputs) there))
