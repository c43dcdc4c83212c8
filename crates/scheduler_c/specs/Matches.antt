-- A call that asks about a match, by what is passed.
use Rattle.std.specs.Prelude.{◌≡◌, ℕ, ◌<◌, ◌≤◌, ◌⊎◌, List, Option}
use Rattle.rotating_pick.specs.declared.kinds.Kind.TheVariants.{Multi}
use Rattle.rotating_pick.specs.declared.limits.TheConstants.{MAX_PORTS}
use Rattle.slot_match.specs.declared.matching.Fed.{Fed}
use Rattle.slot_match.specs.declared.rows.Row.{Row}
use Rattle.slot_match.specs.Rows.{AreWithin}
use Rattle.slot_match.specs.Matches.{IsFreeInput, IsMulticasting, IsMatch}
use Rattle.scheduler_c.specs.declared.feeds.FeedWords.{FeedWords}
use Rattle.scheduler_c.specs.Feeds.{AreFeeds, matched_from}

-- what is passed may be: there is a row for each of n inputs, which names none but the outputs, and the words for
-- the outputs are a match
pub record IsMatchCall (n : ℕ) (rows : List Row) (feeds : List FeedWords) : Type 0 where
  pub some : 0 < n
  pub size : n ≤ MAX_PORTS
  pub within : AreWithin n rows
  pub are_feeds : AreFeeds n feeds
  pub whole : IsMatch n (matched_from feeds)

-- the input may get one output more: it is free, or goes on with its multicast head
abbrev pub IsReadyFor : List (Option Fed) → Fed → Type 0
IsReadyFor matched fed = IsFreeInput matched fed.input ⊎ ((fed.kind ≡ Multi) × IsMulticasting matched fed.input fed.level)
