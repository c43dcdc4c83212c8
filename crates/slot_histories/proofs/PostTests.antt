-- What the test of a post tells.
use Rattle.std.proofs.Common.{◌≡◌, ◌∙◌, ℕ, ◌-◌, ◌≤◌, ◌==◌, ◌&&◌, ◌||◌, nat_lt, nat_le, Bool, true, false, List, [], ◌∷◌, drop, replicate, length}
use Rattle.std.proofs.Common.{Option, None, Some, refl, sym, ap, arith}
use Rattle.std.specs.Bool.{Decides}
use Rattle.std.specs.List.{list_all}
use Rattle.std.proofs.lemmas.Bool.{and_parts, and_from, leb-true, le-leb, eqb-true, eq-eqb}
use Rattle.std.proofs.lemmas.List.{length-drop}
use Rattle.std.proofs.lemmas.Bool.Decides.{Decides-eqb, Decides-ltb, Decides-like, Decides-and, Decides-or}
use Rattle.rotating_pick.specs.declared.limits.TheConstants.{LEVELS, MAX_PORTS}
use Rattle.slot_match.specs.declared.rows.Row.{Row}
use Rattle.slot_match.specs.declared.matching.Served.{Served}
use Rattle.slot_match.specs.Rows.{IsWithin, IsOfLevels}
use Rattle.cell_cutter.specs.declared.cell.Cell.{Cell}
use Rattle.cell_cutter.specs.declared.sizes.TheConstants.{MAX_NUMBER, PAYLOAD_BYTES}
use Rattle.cell_cutter.specs.Cells.{IsUsed, IsCellForm}
use Rattle.crossbar.specs.declared.cards.Post.{Post as CardPost}
use Rattle.eslip_rounds.specs.Decisions.{is_kind}
use Rattle.eslip_rounds.proofs.Testing.{Decides-kind}
use Rattle.slot_histories.specs.Legal.{IsGrantedCell, IsAccepted}
use Rattle.slot_histories.specs.Tests.{is_within, is_empty, is_of_levels, keeps_rest, is_used, is_cell_form, is_granted_cell, is_accepted}
use Rattle.slot_histories.proofs.SetTests.{Decides-is_within, Decides-is_empty, Decides-is_of_levels}
use Rattle.slot_histories.proofs.KeepingTests.{Decides-keeps_rest}

Decides-leb : (a b : ℕ) → Decides (nat_le a b) (a ≤ b)
Decides-leb a b = (leb-true a b, le-leb a b)

Decides-bool : (b : Bool) → Decides b (b ≡ true)
Decides-bool b = (λ e. e, λ e. e)

-- a list of numbers that are all 0 is one of zeros
Decides-zeros : (numbers : List ℕ) → Decides (list_all (λ number. number == 0) numbers) (numbers ≡ replicate (length numbers) 0)
Decides-zeros [] = (λ e. refl, λ e. refl)
Decides-zeros (number ∷ numbers) =
    let rest = Decides-zeros numbers in (
      λ e.
          let parts = and_parts (number == 0) (list_all (λ x. x == 0) numbers) e in
          let first = eqb-true number 0 parts.0 in
          let others = rest.0 parts.1 in
          cc,
      λ e. and_from (number == 0) (list_all (λ x. x == 0) numbers) (eq-eqb number 0 (cc)) (rest.1 (cc)),
    )

Decides-is_used : (last : Bool) (used : ℕ) → Decides (is_used last used) (IsUsed last used)
Decides-is_used true used = Decides-and (nat_lt 0 used) (nat_le used PAYLOAD_BYTES) (Decides-ltb 0 used) (Decides-leb used PAYLOAD_BYTES)
Decides-is_used false used = Decides-eqb used PAYLOAD_BYTES

pub Decides-is_cell_form : (cell : Cell) → Decides (is_cell_form cell) (IsCellForm cell)
unfolding is_cell_form
Decides-is_cell_form cell =
    let input = nat_lt cell.input MAX_PORTS in
    let level = nat_lt cell.level LEVELS in
    let used = is_used cell.last cell.used in
    let number = nat_le cell.number MAX_NUMBER in
    let room = length cell.payload == PAYLOAD_BYTES in
    let unused = drop cell.used cell.payload in
    let blank = list_all (λ byte. byte == 0) unused in
    let count : length cell.payload ≡ PAYLOAD_BYTES → length unused ≡ PAYLOAD_BYTES - cell.used = λ long. omega (arith, length-drop cell.used cell.payload) in
    Decides-like (input && level && used && number && room && blank)
    (λ p. record {
      input = p.0.0.0.0.0;
      level = p.0.0.0.0.1;
      used = p.0.0.0.1;
      number = p.0.0.1;
      room = p.0.1;
      rest = p.1
          ∙ ap (λ m. replicate m 0) (count p.0.1);
    })
    (λ form. (((((form.input, form.level), form.used), form.number), form.room), form.rest ∙ sym (ap (λ m. replicate m 0) (count form.room))))
    (Decides-and (input && level && used && number && room) blank
    (Decides-and (input && level && used && number) room
    (Decides-and (input && level && used) number
    (Decides-and (input && level) used (Decides-and input level (Decides-ltb cell.input MAX_PORTS) (Decides-ltb cell.level LEVELS))
    (Decides-is_used cell.last cell.used))
    (Decides-leb cell.number MAX_NUMBER))
    (Decides-eqb (length cell.payload) PAYLOAD_BYTES))
    (Decides-zeros unused))

pub Decides-is_granted_cell : (card : ℕ) (served : Option Served) (cell : Option Cell)
    → Decides (is_granted_cell card served cell) (IsGrantedCell card served cell)
unfolding is_granted_cell
Decides-is_granted_cell card None None = (λ e. tt, λ e. refl)
Decides-is_granted_cell card None (Some cell) = (λ e. absurd (cc), λ no_cell. absurd no_cell)
Decides-is_granted_cell card (Some served) None = (λ e. absurd (cc), λ no_cell. absurd no_cell)
Decides-is_granted_cell card (Some served) (Some cell) =
    let form = is_cell_form cell in
    let input = cell.input == card in
    let level = cell.level == served.level in
    let kind = is_kind cell.kind served.kind in
    Decides-like (form && input && level && kind) (λ p. (p.0.0.0, p.0.0.1, p.0.1, p.1)) (λ g. (((g.0, g.1), g.2), g.3))
    (Decides-and (form && input && level) kind
    (Decides-and (form && input) level (Decides-and form input (Decides-is_cell_form cell) (Decides-eqb cell.input card))
    (Decides-eqb cell.level served.level)) (Decides-kind cell.kind served.kind))

-- the test of a post tells whether it is accepted, after a row that names none but the n ports at the four levels
pub Decides-is_accepted : (n card : ℕ) (last : Row) (served : Option Served) (post : CardPost) → IsWithin n last → IsOfLevels last
    → Decides (is_accepted n card last served post) (IsAccepted n card last served post)
unfolding is_accepted
Decides-is_accepted n card last served post within levels =
    let in_ports = is_within n post.row in
    let in_levels = is_of_levels post.row in
    let keeps = keeps_rest n served last post.row in
    let granted = is_granted_cell card served post.cell in
    let more = is_empty post.row || post.more in
    Decides-like (in_ports && in_levels && keeps && granted && more)
    (λ p. record { within = p.0.0.0.0; levels = p.0.0.0.1; keeps = p.0.0.1; cell = p.0.1; more = p.1 })
    (λ a. ((((a.within, a.levels), a.keeps), a.cell), a.more))
    (Decides-and (in_ports && in_levels && keeps && granted) more
    (Decides-and (in_ports && in_levels && keeps) granted
    (Decides-and (in_ports && in_levels) keeps (Decides-and in_ports in_levels (Decides-is_within n post.row) (Decides-is_of_levels post.row))
    (Decides-keeps_rest n served last within levels post.row))
    (Decides-is_granted_cell card served post.cell))
    (Decides-or (is_empty post.row) post.more (Decides-is_empty post.row) (Decides-bool post.more)))
