use Rattle.std.proofs.Common.{◌≡◌, ◌++◌, length}
use Rattle.std.specs.Vec.Iter.{into_iter_items, into_iter_len}
use Rattle.card_worker.specs.Groups.{AreGroups}
use Rattle.switch_jobs.specs.ReadinessSteps.{plans_in, HaveRoomFor}
use Rattle.switch_jobs.specs.SharingSteps.{ArePlanned, AreUnrefused}
use Rattle.switch_jobs.proofs.groups.share.Given as goal

abbrev pub invariant-loop-member : goal.invariant-loop-member
invariant-loop-member l = record {
  rest : l.yielded ++ into_iter_items l.member-iterator ≡ into_iter_items l.initial.member-iterator;
  left : into_iter_len l.member-iterator ≡ length (into_iter_items l.member-iterator);
  card : l.card ≡ length l.yielded;
  groups : AreGroups l.board l.card l.groups.items;
  planned : ArePlanned (plans_in l.fn.members.items) l.groups.items;
  unrefused : AreUnrefused l.groups.items;
  room : HaveRoomFor (length l.fn.members.items) l.groups.items;
  count : length l.groups.items ≡ length l.fn.groups.items;
}
