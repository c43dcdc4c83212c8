-- What the journal of a run and the outputs of its cards tell: the rows and waits of its slots, and its numbers.
use Rattle.std.specs.Prelude.{ℕ, ◌^◌, ◌<◌, List, map, length, sum_by}
use Rattle.std.specs.List.{range_with_len}
use Rattle.rotating_pick.specs.declared.limits.TheConstants.{LEVELS}
use Rattle.slot_match.specs.declared.rows.Row.{Row}
use Rattle.crossbar.specs.declared.cards.Post.{Post}
use Rattle.slot_histories.specs.Answers.{JournalSlot}
use Rattle.service_bound.specs.Waits.{NotedSlot, longest_wait}
use Rattle.slot_board.specs.States.{JournalValue}
use Rattle.card_core.specs.declared.outcome.CardOut.{CardOut}
use Rattle.slot_report.specs.declared.summary.Summary.{Summary}
use Rattle.switch_jobs.specs.declared.ready.Terms.{Terms}

-- the rows of posts
abbrev pub rows_of : List Post → List Row
rows_of posts = map (λ post. post.row) posts

-- what is noted of a slot of a journal
abbrev pub noted_in : JournalSlot → NotedSlot
noted_in slot = record { rows = rows_of slot.posts; matched = slot.matched }

-- the longest wait of each level in the slots of a journal
abbrev pub longest_in : ℕ → List JournalSlot → List ℕ
longest_in ports slots = map (λ level. longest_wait ports level (map noted_in slots)) (range_with_len 0 LEVELS)

-- the sums over all outputs fit a u32
pub record HaveSums (outputs : List CardOut) : Type 0 where
  pub dropped : sum_by (λ out. out.dropped) outputs < 2 ^ 32
  pub admitted : sum_by (λ out. out.admitted) outputs < 2 ^ 32
  pub packets : sum_by (λ out. out.packets) outputs < 2 ^ 32
  pub cells : sum_by (λ out. out.cells) outputs < 2 ^ 32

-- the numbers of a run of so many ports, rounds and slots, with these outputs and longest waits
abbrev pub summary_with : Terms → ℕ → ℕ → ℕ → List CardOut → List ℕ → Summary
summary_with terms ports rounds slots outputs longest = record {
  ports = ports;
  rounds = rounds;
  depth = terms.depth;
  slots = slots;
  packets = terms.packets;
  oversize = terms.oversize;
  unrouted = terms.unrouted;
  dropped = sum_by (λ out. out.dropped) outputs;
  forwarded = sum_by (λ out. out.admitted) outputs;
  copies = sum_by (λ out. out.packets) outputs;
  cells = sum_by (λ out. out.cells) outputs;
  longest = longest;
}

-- the numbers of a run with this journal and these outputs
abbrev pub summary_in : Terms → JournalValue → List CardOut → Summary
summary_in terms journal outputs =
    summary_with terms journal.setup.ports journal.setup.rounds (length journal.slots) outputs (longest_in journal.setup.ports journal.slots)
