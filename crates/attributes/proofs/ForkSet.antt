-- A value set in a fork: the records of its name are those of the fork, and all are values.
use Rattle.std.proofs.Common.{◌≡◌, ℕ, List, [], ◌∙◌, ap}
use Rattle.std.specs.Prelude.{not}
use Rattle.hx_bytes.specs.declared.extents.Extent.{Extent}
use Rattle.btree_node.specs.Levels.{Pair}
use Rattle.hfs_model.specs.Sorted.{kept}
use Rattle.hfs_volume.specs.Changes.{DropsAttribute, SetsFork}
use Rattle.hfs_volume.specs.Forks.{in_use}
use Rattle.hfs_volume.proofs.ValueTrades.{set_values}
use Rattle.overflow.proofs.Cutting.{in_use_used}
use Rattle.attributes.specs.Dropping.{is_named}
use Rattle.attributes.specs.Forks.{PutsParts, SpellParts, parts_of}
use Rattle.attributes.specs.Values.{AreValued}
use Rattle.attributes.specs.declared.pair.AttributePair.{AttributePair}
use Rattle.attributes.proofs.ForkParts.{sets_fork}
use Rattle.attributes.proofs.Lists.{kept_twice, none_left}

-- behind its removal the name has no record
pub none_of_name : (id : ℕ) (name : List ℕ) (old bared : List Pair) → DropsAttribute id name old bared → kept (is_named id name) bared ≡ []
none_of_name id name old bared drops = ap (kept (is_named id name)) drops ∙ none_left (is_named id name) old

pub fork_is_set : (id : ℕ) (name : List ℕ) (size : ℕ) (fork : List Extent) (pairs : List AttributePair) (old bared new : List Pair) → SpellParts id name (parts_of size (in_use fork)) pairs → DropsAttribute id name old bared
    → PutsParts id name pairs bared new → SetsFork id name size (in_use fork) old new
fork_is_set id name size fork pairs old bared new spell drops puts =
    sets_fork id name size (in_use fork) pairs old new (in_use_used fork) spell puts.of
    (puts.others ∙ ap (kept (λ pair. not (is_named id name pair))) drops ∙ kept_twice (λ pair. not (is_named id name pair)) old)

pub fork_valued : (id : ℕ) (name : List ℕ) (size : ℕ) (fork : List Extent) (pairs : List AttributePair) (old bared new : List Pair) → SetsFork id name size (in_use fork) old new → PutsParts id name pairs bared new → AreValued old → AreValued new
fork_valued id name size fork pairs old bared new sets puts valued = record { each = puts.spelled; values = set_values id name size (in_use fork) old new sets valued.values }
