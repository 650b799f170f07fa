-- The first number that passes is found step by step.
use Rattle.std.proofs.Common.{◌≡◌, ◌+◌, ℕ, List, true, false, refl, ◌∙◌, ap, add-one}
use Rattle.std.specs.Prelude.{Some, None, if◌then◌else◌}
use Rattle.open_files.specs.declared.act.OpenFile.{OpenFile}
use Rattle.open_files.specs.Handles.{first_free, is_open}
use Rattle.open_files.specs.Sessions.{behind_number, part_behind, session_from}

-- ---- handles

pub handle_none : (handles : List OpenFile) (session number : ℕ) → first_free handles session 0 number ≡ None
unfolding first_free
handle_none handles session number = refl

free_step : (handles : List OpenFile) (session more number : ℕ) → first_free handles session (more + 1) number ≡ (if is_open handles session number then first_free handles session more (number + 1) else Some number)
unfolding first_free
free_step handles session more number = ap (λ n. first_free handles session n number) (add-one more)

pub handle_free : (handles : List OpenFile) (session more number : ℕ) → is_open handles session number ≡ false → first_free handles session (more + 1) number ≡ Some number
handle_free handles session more number is = free_step handles session more number ∙ ap (λ b. if b then first_free handles session more (number + 1) else Some number) is

pub handle_taken : (handles : List OpenFile) (session more number : ℕ) → is_open handles session number ≡ true → first_free handles session (more + 1) number ≡ first_free handles session more (number + 1)
handle_taken handles session more number is = free_step handles session more number ∙ ap (λ b. if b then first_free handles session more (number + 1) else Some number) is

-- ---- sessions

pub session_none : (line : List ℕ) (number : ℕ) → session_from line 0 number ≡ None
unfolding session_from
session_none line number = refl

session_step : (line : List ℕ) (more number : ℕ) → session_from line (more + 1) number ≡ part_behind number (behind_number number line) (session_from line more (number + 1))
unfolding session_from
session_step line more number = ap (λ n. session_from line n number) (add-one more)

pub session_found : (line : List ℕ) (more number : ℕ) (rest : List ℕ) → behind_number number line ≡ Some rest → session_from line (more + 1) number ≡ Some (record { session = number; rest = rest })
session_found line more number rest is = session_step line more number ∙ ap (λ o. part_behind number o (session_from line more (number + 1))) is

pub session_missed : (line : List ℕ) (more number : ℕ) → behind_number number line ≡ None → session_from line (more + 1) number ≡ session_from line more (number + 1)
session_missed line more number is = session_step line more number ∙ ap (λ o. part_behind number o (session_from line more (number + 1))) is
