use Rattle.hfs_serving.proofs.Mounting.{survives_tree, knows_tree}
use Rattle.hfs_serving.proofs.laws.contents_tell_trees.Goals as goal

pub returns-clause-survives : goal.returns-clause-survives
returns-clause-survives c capacity start run answers image told is sound holds = survives_tree c.aside_is_free.ensures capacity start run is sound answers image told holds

pub returns-clause-knows : goal.returns-clause-knows
returns-clause-knows c capacity start run known image is sound holds = knows_tree c.aside_is_free.ensures capacity start run is sound known image holds
