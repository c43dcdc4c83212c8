use Rattle.std.proofs.Common.{◌≡◌, ℕ, List, length, take, sym, subst}
use Rattle.slot_match.specs.declared.rows.Row.{Row}
use Rattle.slot_match.specs.Rows.{AreWithin}
use Rattle.eslip_rounds.specs.Steps.{AreAsks}
use Rattle.eslip_rounds.proofs.Keeping.{AreAsks-kept, length-seen}
use Rattle.eslip_rounds.proofs.columns.Columns.asks.Goals as goal

pub returns : goal.returns
returns c =
    let inside = c.self.inside in
    let n = inside.ports in
    let seen : List Row = take n inside.rows in
    let long : length seen ≡ n = length-seen n inside.rows c.self.invariant.size c.self.invariant.long in
    let P : List Row → Type 0 = λ rows. AreWithin (length rows) rows → AreAsks (length rows) rows inside.asks in
    let Q : ℕ → Type 0 = λ k. AreWithin k seen in
    let R : ℕ → Type 0 = λ k. AreAsks k seen inside.asks in
    subst P c.self.view_is (λ within. subst R (sym long) (AreAsks-kept n inside.rows inside.asks c.self.invariant (subst Q long within)))
