use Rattle.std.proofs.Common.{refl}
use Rattle.volume_make.specs.Layout.{layout_of}
use Rattle.volume_make.proofs.laws.places_are_worked.Goals as goal

pub returns-clause-usual : goal.returns-clause-usual
unfolding layout_of
returns-clause-usual c = record { parts_are = refl; blocks_are = refl }

pub returns-clause-small_blocks : goal.returns-clause-small_blocks
unfolding layout_of
returns-clause-small_blocks c = record { parts_are = refl; blocks_are = refl }

pub returns-clause-large_blocks : goal.returns-clause-large_blocks
unfolding layout_of
returns-clause-large_blocks c = record { parts_are = refl; blocks_are = refl }

pub returns-clause-odd : goal.returns-clause-odd
unfolding layout_of
returns-clause-odd c = record { parts_are = refl; blocks_are = refl }

pub returns-clause-left_over : goal.returns-clause-left_over
unfolding layout_of
returns-clause-left_over c = record { parts_are = refl; blocks_are = refl }

pub returns-clause-most_blocks : goal.returns-clause-most_blocks
unfolding layout_of
returns-clause-most_blocks c = record { parts_are = refl; blocks_are = refl }

pub returns-clause-most_bytes : goal.returns-clause-most_bytes
unfolding layout_of
returns-clause-most_bytes c = record { parts_are = refl; blocks_are = refl }
