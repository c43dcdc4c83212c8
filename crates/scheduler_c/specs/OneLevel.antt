-- A call for one slot of iSLIP, by the words that are passed and by those that come back.
use Rattle.std.specs.Prelude.{◌≡◌, ℕ, ◌<◌, List, Option, None, length, slice_index, slice_index_or}
use Rattle.islip_rounds.specs.declared.unicast.UniPointers.{UniPointers}
use Rattle.islip_rounds.specs.Slots.{IsSlot}
use Rattle.scheduler_c.specs.declared.words.RoundsWords.{RoundsWords}
use Rattle.scheduler_c.specs.Words.{IsSize, ArePorts, AreSets, AreSame, port_word}
use Rattle.scheduler_c.specs.Numbers.{numbers_from}

-- the words may be passed: they are for n ports, and there are n words for the match
pub record IsUniCall (n rounds : ℕ) (asks grant accept fed : List ℕ) : Type 0 where
  pub size : IsSize n rounds
  pub are_asks : AreSets n asks
  pub are_grants : ArePorts n grant
  pub are_accepts : ArePorts n accept
  pub fed_words : length fed ≡ n

-- the words are those of a slot of iSLIP: from pointers at `grant` and `accept` it makes the match `fed`
-- and the numbers `used`, and its pointers are at `next_grant` and `next_accept` after it
pub record IsUniAnswer (n rounds : ℕ) (asks grant accept fed : List ℕ) (used : RoundsWords) (next_grant next_accept : List ℕ) : Type 0 where
  pub before : UniPointers
  pub after : UniPointers
  pub matched : List (Option ℕ)
  pub slot : IsSlot n rounds asks before matched (numbers_from used) after
  pub grant_before : AreSame n grant before.grant
  pub accept_before : AreSame n accept before.accept
  pub grant_after : AreSame n next_grant after.grant
  pub accept_after : AreSame n next_accept after.accept
  pub fed_words : (j : ℕ) → j < n → slice_index fed j ≡ port_word (slice_index_or matched j None)
