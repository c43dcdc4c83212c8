use Rattle.std.proofs.Common.{arith, refl, sym, [], ◌∷◌, ◌++◌, ap, ◌∙◌, ◌≡◌, ◌<◌, length, slice_set}
use Rattle.reassembly.specs.Flows.{after_cell, bytes_with, flow_of}
use Rattle.reassembly.specs.BufferSteps.{flows_in}
use Rattle.reassembly.specs.Cutting.{messages_of}
use Rattle.reassembly.proofs.Pieces.{messages_of-last}
use Rattle.reassembly.proofs.Storing.{IsPut, flows-put, message-put, kind_byte-lt}
use Rattle.reassembly.proofs.assembly.Reassembly.put.Goals as goal
use Rattle.reassembly.proofs.assembly.Reassembly.put.Goals.{After-add}

-- the cell's flow has a buffer
in_place : (c : After-add) → c.place_of-place.result < length c.self.inside.buffers.items
in_place c =
    omega (
      arith,
      c.place_of-place.ensures,
      c.requires.input,
      c.requires.form.level,
      c.self.invariant.0,
      ap (λ f. f.ports) c.self.view_is,
      kind_byte-lt c.args.cell.now.kind,
    )

-- it took the cell
is_put : (c : After-add) → IsPut c.self.inside.buffers.items c.args.cell.now c.place_of-place.result c.index_mut.result.now c.add.new.self
is_put c =
    record { place_is = c.place_of-place.ensures; inside = in_place c; was = c.index_mut.ensures.value; now = c.add.ensures }

-- the flows that stand after the cell was added
stands : (c : After-add) → flows_in c.self.inside.ports
    (slice_set c.self.inside.buffers.items c.place_of-place.result c.add.new.self) ≡ after_cell c.args.self.now c.args.cell.now
stands c =
    flows-put c.self.inside.ports c.self.inside.buffers.items c.args.cell.now c.place_of-place.result c.index_mut.result.now c.add.new.self (is_put c)
    ∙ ap (λ f. after_cell f c.args.cell.now) c.self.view_is

pub returns-then-cell : goal.returns-then-cell
returns-then-cell c =
    let cell = c.args.cell.now in
    let shown = message-put c.self.inside.ports c.self.inside.buffers.items cell c.place_of-place.result c.index_mut.result.now c.add.new.self
    c.index.result.now (is_put (goal.at.returns-then-cell c).After-add) c.index.ensures ∙ ap (λ f. bytes_with (flow_of f cell) cell) c.self.view_is in (
      (refl, λ _. tt, stands (goal.at.returns-then-cell c).After-add),
      record {
        after = tt;
        none = (λ e. absurd (cc), λ e. absurd (cc));
        flow = (refl, refl, refl);
        message = c.message.ensures ∙ shown;
        cut = λ cells so_far. messages_of-last (flow_of c.args.self.now c.args.cell.now) cells c.args.cell.now so_far c.if-cell.true
            ∙ ap (λ b. messages_of cells ++ b ∷ []) (sym (c.message.ensures ∙ shown));
      },
    )

pub returns-else-cell : goal.returns-else-cell
returns-else-cell c = (
  (refl, λ _. tt, stands (goal.at.returns-else-cell c).After-add),
  record { after = tt; none = (λ _. c.if-cell.false, λ _. refl); flow = tt; message = tt; cut = λ _ _. tt },
)
