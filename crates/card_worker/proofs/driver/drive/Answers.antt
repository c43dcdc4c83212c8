use Rattle.std.proofs.Common.{◌∙◌, ap, sym}
use Rattle.std.specs.Prelude.{slice_get}
use Rattle.card_worker.proofs.driver.drive.Goals as goal

pub drive_all-made-requires-clause-sound : goal.drive_all-made-requires-clause-sound
drive_all-made-requires-clause-sound g c = λ j m at.
    let mine = ap (λ ms. slice_get ms j) (sym c.deref_mut.ensures.value) ∙ at in
    let heard = ap (λ ms. slice_get ms j) c.deref.ensures.value ∙ mine in
    record { agrees = c.requires.members j m mine; told = c.hear.ensures j m heard }
