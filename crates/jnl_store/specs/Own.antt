-- Which sectors are the journal's.
use Rattle.std.specs.Prelude.{◌≡◌, ◌<◌, ◌+◌, ◌/◌, ◌==◌, ◌&&◌, ◌||◌, ℕ, Bool, false, nat_le, nat_lt, List, length, slice_index_or, Option, None, Some}
use Rattle.jnl_replay.specs.declared.plan.Plan.{Plan}
use Rattle.jnl_store.specs.declared.own.Own.{Own}

-- those of a plan's journal: of its buffer and header, and the info block
abbrev pub own_of : Plan → Own
own_of plan = record {
  first = plan.info.offset / 512;
  end = plan.info.offset / 512 + plan.info.size / 512;
  info = plan.place.info_sector;
}

-- a sector is one of them
abbrev pub owns : Own → ℕ → Bool
owns own at = nat_le own.first at && nat_lt at own.end || at == own.info

-- no slot names one of them
abbrev pub NamesNone : Own → List (Option ℕ) → Type 0
NamesNone own names = (k at : ℕ) → k < length names → slice_index_or names k None ≡ Some at → owns own at ≡ false
