use Rattle.session_lines.proofs.FewIds.{few_behind}
use Rattle.session_lines.proofs.laws.ids_stay_few.Goals as goal

pub returns : goal.returns
returns c capacity entry served low = few_behind c.sound_content_has_tree.ensures capacity entry served low
