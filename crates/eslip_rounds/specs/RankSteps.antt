-- Ranks: a level and a kind as one number, the better the lower. Of one level the preferred kind is first.
use Rattle.std.specs.Prelude.{ℕ, ◌+◌, ◌*◌, ◌/◌, ◌%◌, ◌==◌, if◌then◌else◌}
use Rattle.rotating_pick.specs.declared.kinds.Kind.{Kind}
use Rattle.rotating_pick.specs.declared.kinds.Kind.TheVariants.{Uni, Multi}
use Rattle.eslip_rounds.specs.Rounds.{other_kind}

-- the level of a rank
abbrev pub level_at : ℕ → ℕ
level_at rank = rank / 2

-- the kind of a rank, where `first_kind` is preferred
abbrev pub kind_at : Kind → ℕ → Kind
kind_at first_kind rank = if rank % 2 == 0 then first_kind else other_kind first_kind

-- the rank of a level and kind, where `first_kind` is preferred
abbrev pub rank_of : Kind → ℕ → Kind → ℕ
rank_of Uni level Uni = 2 * level
rank_of Uni level Multi = 2 * level + 1
rank_of Multi level Multi = 2 * level
rank_of Multi level Uni = 2 * level + 1

-- the set of a level and kind is its rank where unicast is preferred: this is the set of a rank
abbrev pub set_at : Kind → ℕ → ℕ
set_at first_kind rank = rank_of Uni (level_at rank) (kind_at first_kind rank)
