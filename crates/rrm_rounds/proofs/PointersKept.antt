-- After a slot the pointers of the level are at ports again, and the shared pointer has passed the first head that completed.
use Rattle.std.proofs.Common.{ℕ}
use Rattle.std_lemmas.proofs.Numbers.{below_moved}
use Rattle.rotating_pick.specs.Rotation.{IsFirstFrom}
use Rattle.rotating_pick.specs.declared.kinds.Kind.TheVariants.{Uni}
use Rattle.slot_match.specs.Rows.{HasHead}
use Rattle.slot_match.specs.Matches.{Serves, Completes}
use Rattle.pointer_state.specs.Places.{grant_of, accept_of, shared_of}
use Rattle.service_bound.proofs.InWindows.{KeepPointing}
use Rattle.service_bound.proofs.HeadsComplete.{PassHeads}
use Rattle.rrm_rounds.specs.Slots.{IsGrantedFirst, AreMovedByRrm}

-- the pointers of the level are at ports again
pub rrm_keep : (n level : ℕ) → KeepPointing AreMovedByRrm n level
rrm_keep n level t rows first matched before after size within pointing moved =
    record {
      grant = λ j j_in. below_moved n (grant_of after j level) (grant_of before j level) (λ i. IsGrantedFirst n t rows before i j level)
          (λ i. moved.granted i j level) (moved.grant_stays j level) (pointing.grant j j_in);
      accept = λ i i_in. below_moved n (accept_of after i level) (accept_of before i level) (λ j. Serves first i j level Uni) (λ j. moved.accepted i j level)
          (moved.accept_stays i level) (pointing.accept i i_in);
      shared = below_moved n (shared_of after level) (shared_of before level)
          (λ i. IsFirstFrom n (shared_of before level) (HasHead rows level) i × Completes rows matched level i) (λ i p. moved.passed i level p.0 p.1)
          (λ none. moved.shared_stays level (λ i head done. none i (head, done))) pointing.shared;
    }

-- the shared pointer of the level passes the first head, where that completes
pub rrm_pass : (n level : ℕ) → PassHeads AreMovedByRrm n level
rrm_pass n level t rows first matched before after moved = record { passed = λ i. moved.passed i level; stays = moved.shared_stays level }
