-- One who asks what the keeping folder holds hears one reply more.
use Rattle.std.proofs.Common.{◌≡◌, ◌++◌, ◌∷◌, [], Bool, true, false, List, map, refl, sym, ◌∙◌, ap, append_assoc}
use Rattle.std.specs.Prelude.{option_to_list, if◌then◌else◌}
use Rattle.std.proofs.lemmas.List.{append-nil, map-append}
use Rattle.hfs_language.specs.declared.command.Command.{Command}
use Rattle.hfs_language.specs.declared.reply.Reply.{Reply}
use Rattle.volume_look.specs.Talk.{Hears}
use Rattle.session_lines.specs.Keepers.{asked_before, heard_of, next_of, talk_of}
use Rattle.session_lines.specs.declared.taken.Told.{Told}

asked_last : (past heard : List Told) (told : Told) → asked_before past (heard ++ told ∷ []) ≡ asked_before past heard ++ option_to_list (next_of (past ++ heard))
asked_last past [] told = append-nil (option_to_list (next_of past)) ∙ ap (λ (l : List Told). option_to_list (next_of l)) (sym (append-nil past))
asked_last past (first ∷ heard) told =
    ap (λ (l : List Command). option_to_list (next_of past) ++ l) (asked_last (past ++ first ∷ []) heard told)
    ∙ sym (append_assoc (option_to_list (next_of past)) (asked_before (past ++ first ∷ []) heard) (option_to_list (next_of ((past ++ first ∷ []) ++ heard))))
    ∙ ap (λ (l : List Told). (option_to_list (next_of past) ++ asked_before (past ++ first ∷ []) heard) ++ option_to_list (next_of l)) (append_assoc past (first ∷ []) heard)

pub hears_told : (heard new : List Told) (waiting : Bool) (asked : Command) (said : Reply) → waiting ≡ true → new ≡ heard ++ record { command = asked; reply = said } ∷ [] → Hears (talk_of heard waiting) asked said (talk_of new false)
hears_told heard new waiting asked said waits is =
    let told : Told = record { command = asked; reply = said } in
    record {
      heard = ap (map heard_of) is ∙ map-append heard_of heard (told ∷ []);
      asked = ap (λ (l : List Told). asked_before [] l ++ []) is ∙ append-nil (asked_before [] (heard ++ told ∷ [])) ∙ asked_last [] heard told ∙ ap (λ b. asked_before [] heard ++ (if b then option_to_list (next_of heard) else [])) (sym waits);
    }
