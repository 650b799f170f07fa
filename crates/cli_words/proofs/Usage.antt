-- Words ask for one work at most.
use Rattle.std.proofs.Common.{◌≡◌, ℕ, List, [], ◌∷◌, get_or, inl, inr, refl, subst, sym, ◌∙◌, ap, codes}
use Rattle.std.specs.Prelude.{decimal}
use Rattle.std.proofs.lemmas.Fmt.{decimal_injective}
use Rattle.cli_words.specs.Words.{AreRun, AreCheck, AreRepair, AreSessions, AreFormat, AreGen, AreInUse, AreWordsOf, IsFormatOf, IsGenOf, MayName}
use Rattle.cli_words.specs.declared.named.Work.{Work}
use Rattle.cli_words.specs.declared.named.Work.TheVariants.{Check, Format, Gen, Repair, Run, Sessions, Wrong}

third : List (List ℕ) → List ℕ
third words = get_or words 2 []

the_third : (image : List ℕ) (sectors : ℕ) → third (codes "format" ∷ image ∷ decimal sectors ∷ []) ≡ decimal sectors
unfolding third
the_third image sectors = refl

apart : (words : List (List ℕ)) (a b d : List ℕ) → words ≡ codes "run" ∷ a ∷ [] → words ≡ codes "format" ∷ b ∷ d ∷ [] → ⊥
apart words a b d run format = absurd (cc (run, format))

pub not_both : (words : List (List ℕ)) (sectors : ℕ) → AreRun words → AreFormat words sectors → ⊥
not_both words sectors run format = apart words run.0 format.0 (decimal sectors) run.2 format.3

apart_check : (words : List (List ℕ)) (a b d : List ℕ) → words ≡ codes "check" ∷ a ∷ [] → words ≡ codes "format" ∷ b ∷ d ∷ [] → ⊥
apart_check words a b d check format = absurd (cc (check, format))

apart_run : (words : List (List ℕ)) (a b : List ℕ) → words ≡ codes "run" ∷ a ∷ [] → words ≡ codes "check" ∷ b ∷ [] → ⊥
apart_run words a b run check = absurd (cc (run, check))

pub no_format : (words : List (List ℕ)) (sectors : ℕ) → AreCheck words → AreFormat words sectors → ⊥
no_format words sectors check format = apart_check words check.0 format.0 (decimal sectors) check.2 format.3

pub no_check : (words : List (List ℕ)) → AreRun words → AreCheck words → ⊥
no_check words run check = apart_run words run.0 check.0 run.2 check.2

apart_repair_format : (words : List (List ℕ)) (a b d : List ℕ) → words ≡ codes "repair" ∷ a ∷ [] → words ≡ codes "format" ∷ b ∷ d ∷ [] → ⊥
apart_repair_format words a b d repair format = absurd (cc (repair, format))

apart_repair_run : (words : List (List ℕ)) (a b : List ℕ) → words ≡ codes "repair" ∷ a ∷ [] → words ≡ codes "run" ∷ b ∷ [] → ⊥
apart_repair_run words a b repair run = absurd (cc (repair, run))

apart_repair_check : (words : List (List ℕ)) (a b : List ℕ) → words ≡ codes "repair" ∷ a ∷ [] → words ≡ codes "check" ∷ b ∷ [] → ⊥
apart_repair_check words a b repair check = absurd (cc (repair, check))

-- words that ask for a repair ask for nothing else
pub no_format_of_repair : (words : List (List ℕ)) (sectors : ℕ) → AreRepair words → AreFormat words sectors → ⊥
no_format_of_repair words sectors repair format = apart_repair_format words repair.0 format.0 (decimal sectors) repair.2 format.3

pub no_run_of_repair : (words : List (List ℕ)) → AreRepair words → AreRun words → ⊥
no_run_of_repair words repair run = apart_repair_run words repair.0 run.0 repair.2 run.2

pub no_check_of_repair : (words : List (List ℕ)) → AreRepair words → AreCheck words → ⊥
no_check_of_repair words repair check = apart_repair_check words repair.0 check.0 repair.2 check.2

-- and so do words that ask for sessions
apart_sessions_run : (words : List (List ℕ)) (a b : List ℕ) → words ≡ codes "sessions" ∷ a ∷ [] → words ≡ codes "run" ∷ b ∷ [] → ⊥
apart_sessions_run words a b sessions run = absurd (cc (sessions, run))

apart_sessions_check : (words : List (List ℕ)) (a b : List ℕ) → words ≡ codes "sessions" ∷ a ∷ [] → words ≡ codes "check" ∷ b ∷ [] → ⊥
apart_sessions_check words a b sessions check = absurd (cc (sessions, check))

apart_sessions_repair : (words : List (List ℕ)) (a b : List ℕ) → words ≡ codes "sessions" ∷ a ∷ [] → words ≡ codes "repair" ∷ b ∷ [] → ⊥
apart_sessions_repair words a b sessions repair = absurd (cc (sessions, repair))

apart_sessions_format : (words : List (List ℕ)) (a b d : List ℕ) → words ≡ codes "sessions" ∷ a ∷ [] → words ≡ codes "format" ∷ b ∷ d ∷ [] → ⊥
apart_sessions_format words a b d sessions format = absurd (cc (sessions, format))

apart_sessions_gen : (words : List (List ℕ)) (a b d : List ℕ) → words ≡ codes "sessions" ∷ a ∷ [] → words ≡ codes "gen" ∷ b ∷ d ∷ [] → ⊥
apart_sessions_gen words a b d sessions gen = absurd (cc (sessions, gen))

pub no_run_of_sessions : (words : List (List ℕ)) → AreSessions words → AreRun words → ⊥
no_run_of_sessions words sessions run = apart_sessions_run words sessions.0 run.0 sessions.2 run.2

pub no_check_of_sessions : (words : List (List ℕ)) → AreSessions words → AreCheck words → ⊥
no_check_of_sessions words sessions check = apart_sessions_check words sessions.0 check.0 sessions.2 check.2

pub no_repair_of_sessions : (words : List (List ℕ)) → AreSessions words → AreRepair words → ⊥
no_repair_of_sessions words sessions repair = apart_sessions_repair words sessions.0 repair.0 sessions.2 repair.2

pub no_format_of_sessions : (words : List (List ℕ)) (sectors : ℕ) → AreSessions words → AreFormat words sectors → ⊥
no_format_of_sessions words sectors sessions format = apart_sessions_format words sessions.0 format.0 (decimal sectors) sessions.2 format.3

pub no_gen_of_sessions : (words : List (List ℕ)) (seed count : ℕ) → AreSessions words → AreGen words seed count → ⊥
no_gen_of_sessions words seed count sessions gen = apart_sessions_gen words sessions.0 (decimal seed) (decimal count) sessions.2 gen.2

pub same_sectors : (words : List (List ℕ)) (a b : ℕ) → AreFormat words a → AreFormat words b → a ≡ b
same_sectors words a b first second =
    decimal_injective a b first.2 second.2 (sym (the_third first.0 a) ∙ ap third (sym first.3 ∙ second.3) ∙ the_third second.0 b)

apart_gen_run : (words : List (List ℕ)) (a b d : List ℕ) → words ≡ codes "run" ∷ a ∷ [] → words ≡ codes "gen" ∷ b ∷ d ∷ [] → ⊥
apart_gen_run words a b d run gen = absurd (cc (run, gen))

apart_gen_check : (words : List (List ℕ)) (a b d : List ℕ) → words ≡ codes "check" ∷ a ∷ [] → words ≡ codes "gen" ∷ b ∷ d ∷ [] → ⊥
apart_gen_check words a b d check gen = absurd (cc (check, gen))

apart_gen_format : (words : List (List ℕ)) (a e b d : List ℕ) → words ≡ codes "format" ∷ a ∷ e ∷ [] → words ≡ codes "gen" ∷ b ∷ d ∷ [] → ⊥
apart_gen_format words a e b d format gen = absurd (cc (format, gen))

apart_gen_repair : (words : List (List ℕ)) (a b d : List ℕ) → words ≡ codes "repair" ∷ a ∷ [] → words ≡ codes "gen" ∷ b ∷ d ∷ [] → ⊥
apart_gen_repair words a b d repair gen = absurd (cc (repair, gen))

-- words that ask for a stream ask for nothing else
pub no_run_of_gen : (words : List (List ℕ)) (seed count : ℕ) → AreRun words → AreGen words seed count → ⊥
no_run_of_gen words seed count run gen = apart_gen_run words run.0 (decimal seed) (decimal count) run.2 gen.2

pub no_check_of_gen : (words : List (List ℕ)) (seed count : ℕ) → AreCheck words → AreGen words seed count → ⊥
no_check_of_gen words seed count check gen = apart_gen_check words check.0 (decimal seed) (decimal count) check.2 gen.2

pub no_repair_of_gen : (words : List (List ℕ)) (seed count : ℕ) → AreRepair words → AreGen words seed count → ⊥
no_repair_of_gen words seed count repair gen = apart_gen_repair words repair.0 (decimal seed) (decimal count) repair.2 gen.2

pub no_format_of_gen : (words : List (List ℕ)) (sectors seed count : ℕ) → AreFormat words sectors → AreGen words seed count → ⊥
no_format_of_gen words sectors seed count format gen = apart_gen_format words format.0 (decimal sectors) (decimal seed) (decimal count) format.3 gen.2

second : List (List ℕ) → List ℕ
second words = get_or words 1 []

the_second : (seed count : ℕ) → second (codes "gen" ∷ decimal seed ∷ decimal count ∷ []) ≡ decimal seed
unfolding second
the_second seed count = refl

the_last : (seed count : ℕ) → third (codes "gen" ∷ decimal seed ∷ decimal count ∷ []) ≡ decimal count
unfolding third
the_last seed count = refl

pub same_seed : (words : List (List ℕ)) (a b m n : ℕ) → AreGen words a m → AreGen words b n → a ≡ b
same_seed words a b m n one other = decimal_injective a b one.0 other.0 (sym (the_second a m) ∙ ap second (sym one.2 ∙ other.2) ∙ the_second b n)

pub same_count : (words : List (List ℕ)) (a b m n : ℕ) → AreGen words a m → AreGen words b n → m ≡ n
same_count words a b m n one other = decimal_injective m n one.1 other.1 (sym (the_last a m) ∙ ap third (sym one.2 ∙ other.2) ∙ the_last b n)

second_is : (v a b : List ℕ) → second (v ∷ a ∷ b ∷ []) ≡ a
unfolding second
second_is v a b = refl

third_is : (v a b : List ℕ) → third (v ∷ a ∷ b ∷ []) ≡ b
unfolding third
third_is v a b = refl

the_second_of : (words : List (List ℕ)) (v a b : List ℕ) → words ≡ v ∷ a ∷ b ∷ [] → second words ≡ a
the_second_of words v a b are = ap second are ∙ second_is v a b

the_third_of : (words : List (List ℕ)) (v a b : List ℕ) → words ≡ v ∷ a ∷ b ∷ [] → third words ≡ b
the_third_of words v a b are = ap third are ∙ third_is v a b

-- the words behind `format`, and those behind `gen`
pub words_of_format : (words : List (List ℕ)) (a b : List ℕ) (work : Work) → words ≡ codes "format" ∷ a ∷ b ∷ [] → IsFormatOf a b work → AreWordsOf words work
words_of_format words a b (Format many) are is = (a, is.0, is.1, are ∙ ap (λ (t : List ℕ). codes "format" ∷ a ∷ t ∷ []) is.2)
words_of_format words a b Run are is = absurd is
words_of_format words a b Check are is = absurd is
words_of_format words a b Repair are is = absurd is
words_of_format words a b Sessions are is = absurd is
words_of_format words a b (Gen seed count) are is = absurd is
words_of_format words a b Wrong are is = (
  λ run. apart words run.0 a b run.2 are,
  λ check. apart_check words check.0 a b check.2 are,
  λ repair. apart_repair_format words repair.0 a b repair.2 are,
  λ sessions. apart_sessions_format words sessions.0 a b sessions.2 are,
  λ many format. is many (subst MayName (sym (the_second_of words _ _ _ format.3) ∙ the_second_of words _ _ _ are) format.1) format.2 (sym (the_third_of words _ _ _ are) ∙ the_third_of words _ _ _ format.3),
  λ seed count gen. apart_gen_format words a b (decimal seed) (decimal count) are gen.2,
)

pub words_of_gen : (words : List (List ℕ)) (a b : List ℕ) (work : Work) → words ≡ codes "gen" ∷ a ∷ b ∷ [] → IsGenOf a b work → AreWordsOf words work
words_of_gen words a b (Format many) are is = absurd is
words_of_gen words a b Run are is = absurd is
words_of_gen words a b Check are is = absurd is
words_of_gen words a b Repair are is = absurd is
words_of_gen words a b Sessions are is = absurd is
words_of_gen words a b (Gen seed count) are is = (is.0, is.1, are ∙ (λ i. codes "gen" ∷ is.2 i ∷ is.3 i ∷ []))
words_of_gen words a b Wrong are is = (
  λ run. apart_gen_run words run.0 a b run.2 are,
  λ check. apart_gen_check words check.0 a b check.2 are,
  λ repair. apart_gen_repair words repair.0 a b repair.2 are,
  λ sessions. apart_sessions_gen words sessions.0 a b sessions.2 are,
  λ many format. apart_gen_format words format.0 (decimal many) a b format.3 are,
  λ seed count gen. is seed count gen.0 gen.1 (sym (the_second_of words _ _ _ are) ∙ the_second_of words _ _ _ gen.2) (sym (the_third_of words _ _ _ are) ∙ the_third_of words _ _ _ gen.2),
)

-- words that name a work aren't wrong
pub not_wrong : (words : List (List ℕ)) (work : Work) → AreWordsOf words work → (work ≡ Wrong → ⊥) → AreWordsOf words Wrong → ⊥
not_wrong words (Format many) are other wrong = wrong.4 many are
not_wrong words Run are other wrong = wrong.0 are
not_wrong words Check are other wrong = wrong.1 are
not_wrong words Repair are other wrong = wrong.2 are
not_wrong words Sessions are other wrong = wrong.3 are
not_wrong words (Gen seed count) are other wrong = wrong.5 seed count are
not_wrong words Wrong are other wrong = other refl

-- words that name another work aren't `format`'s
pub not_format : (words : List (List ℕ)) (work : Work) (n : ℕ) → AreWordsOf words work → ((many : ℕ) → work ≡ Format many → ⊥) → AreFormat words n → ⊥
not_format words (Format many) n are other format = other many refl
not_format words Run n are other format = not_both words n are format
not_format words Check n are other format = no_format words n are format
not_format words Repair n are other format = no_format_of_repair words n are format
not_format words Sessions n are other format = no_format_of_sessions words n are format
not_format words (Gen seed count) n are other format = no_format_of_gen words n seed count format are
not_format words Wrong n are other format = are.4 n format

-- words that name another work than `format` are in use for each image
pub in_use : (words : List (List ℕ)) (work : Work) (n : ℕ) → AreWordsOf words work → (work ≡ Wrong → ⊥) → ((many : ℕ) → work ≡ Format many → ⊥) → AreInUse words n
in_use words (Format many) n are right other = absurd (other many refl)
in_use words Run n are right other = inl are
in_use words Check n are right other = inr (inl are)
in_use words Repair n are right other = inr (inr (inl are))
in_use words Sessions n are right other = inr (inr (inr (inl are)))
in_use words (Gen seed count) n are right other = inr (inr (inr (inr (inr (seed, count, are)))))
in_use words Wrong n are right other = absurd (right refl)
