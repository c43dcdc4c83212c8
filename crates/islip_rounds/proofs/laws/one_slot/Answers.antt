use Rattle.std.proofs.Common.{◌≡◌, ◌∙◌, length, slice_index_or, None, refl, sym, ap}
use Rattle.islip_rounds.specs.Numbers.{added_from, numbers_of}
use Rattle.islip_rounds.specs.Slots.{unmatched}
use Rattle.islip_rounds.proofs.Unique.{AreSame, last_only, counts_only, first_only, grant_only, accept_only}
use Rattle.islip_rounds.proofs.laws.one_slot.Goals as goal

pub returns : goal.returns
returns c n rounds asks before p q a b x y r s =
    let start : AreSame unmatched unmatched = λ j. refl in
    let long : length r.steps ≡ length s.steps = r.count ∙ sym s.count in
    let lasts = last_only n asks before unmatched unmatched r.steps s.steps start long r.chain s.chain in
    let counts = counts_only n asks before unmatched unmatched r.steps s.steps start long r.chain s.chain in
    let firsts = first_only n asks before unmatched unmatched r.steps s.steps start long r.chain s.chain in
    let first = slice_index_or r.steps 0 unmatched in
    let other = slice_index_or s.steps 0 unmatched in
    record {
      matched = λ j. ap (λ m. slice_index_or m j None) r.result ∙ (lasts j ∙ ap (λ m. slice_index_or m j None) (sym s.result));
      numbers = r.numbered ∙ (ap (λ k. numbers_of (added_from 0 k)) counts ∙ sym s.numbered);
      grant = grant_only n first other firsts before p q r.moved s.moved;
      accept = accept_only n first other firsts before p q r.moved s.moved;
    }
