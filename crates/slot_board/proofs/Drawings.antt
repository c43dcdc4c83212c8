-- What an act of taking hands out, read as an answer.
use Rattle.std.proofs.Common.{◌≡◌, true, false, refl}
use Rattle.std.specs.Prelude.{Ok, Err}
use Rattle.slot_board.specs.declared.acts.Drawn.{Drawn}
use Rattle.slot_board.specs.DrawingSteps.{drawn_answer}

module _ (drawn : Drawn) where
  pub ready-is : drawn.ready ≡ true → drawn_answer drawn ≡ Ok drawn.taken
  ready-is ready = rw ready refl

  pub waiting-is : drawn.ready ≡ false → drawn_answer drawn ≡ Err drawn.posted
  waiting-is waiting = rw waiting refl
