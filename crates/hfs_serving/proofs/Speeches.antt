-- What speakers speak, one stretch behind the other.
use Rattle.std.proofs.Common.{◌≡◌, ◌≤◌, ◌+◌, ◌++◌, ◌∷◌, [], ℕ, Bool, true, false, List, length, length-append, take, refl, sym, ◌∙◌, ap, subst, arith, append_assoc}
use Rattle.std.specs.Prelude.{None, Option}
use Rattle.std.proofs.lemmas.List.{append-nil, length-take-le}
use Rattle.sector_disk.specs.Space.{Space}
use Rattle.jnl_format.specs.Recovery.{Content}
use Rattle.hfs_language.specs.declared.reply.Change.{Change}
use Rattle.hfs_volume.specs.TreeOf.{tree_of}
use Rattle.volume_runs.specs.Run.{Entry, content_after, shrunk_in, tree_after}
use Rattle.hfs_serving.specs.Going.{GoesRested, Knowing, Stands, Stays, StopsOn, line_if}
use Rattle.hfs_serving.specs.Outside.{Outside}
use Rattle.hfs_serving.specs.Runs.{Answer, AreAnswers, Leads, shifted, texts_of}
use Rattle.hfs_serving.specs.Said.{joined, untold}
use Rattle.hfs_serving.specs.Serving.{Commits, Goes, MayCommit}
use Rattle.hfs_serving.specs.Speaking.{Speaks, SpeaksBatch, SpeaksFrom, SpeaksLine, SpeaksLines, SpeaksOn, Speech, Spoken, StopsLines, StopsSpeaking, spoken_on, to_tell, unspoken}
use Rattle.hfs_serving.specs.declared.volume.ToTell.{ToTell}
use Rattle.hfs_serving.proofs.Batches.{goes_both, goes_none, goes_stops}
use Rattle.hfs_serving.proofs.Going.{commit_stops_tidy, stands_there}
use Rattle.hfs_serving.proofs.Joining.{commit_goes_here}
use Rattle.hfs_serving.proofs.Leading.{leads_to_rest, plain_of}
use Rattle.hfs_serving.proofs.Lists.{content_after-append, shrunk_in-append, shrunk_in-none}
use Rattle.hfs_serving.proofs.Mounting.{tidied_tree}
use Rattle.hfs_serving.proofs.Saying.{joined_both, joined_none, tells_both}
use Rattle.hfs_serving.proofs.Texts.{are_both, are_more, are_shifted, texts_of-none, texts_of_both}

-- ---- answers behind other entries

pub shifted-append : (before : ℕ) (answers more : List Answer) → shifted before (answers ++ more) ≡ shifted before answers ++ shifted before more
shifted-append before [] more = refl
shifted-append before (answer ∷ answers) more = ap (λ (l : List Answer). record { text = answer.text; upto = before + answer.upto } ∷ l) (shifted-append before answers more)

pub shifted-both : (before more : ℕ) (answers : List Answer) → shifted before (shifted more answers) ≡ shifted (before + more) answers
shifted-both before more [] = refl
shifted-both before more (answer ∷ answers) =
    let behind : before + (more + answer.upto) ≡ before + more + answer.upto = omega arith in
    λ i. record { text = answer.text; upto = behind i } ∷ shifted-both before more answers i

pub shifted-none : (answers : List Answer) → shifted 0 answers ≡ answers
shifted-none [] = refl
shifted-none (answer ∷ answers) =
    let same : 0 + answer.upto ≡ answer.upto = omega arith in
    λ i. record { text = answer.text; upto = same i } ∷ shifted-none answers i

-- ---- what was spoken

module _ (lines others : List (List ℕ)) (run more : List Entry) (answers further : List Answer) (changes then : List Change) where
  pub same_speech : lines ≡ others → run ≡ more → answers ≡ further → changes ≡ then
      → ◌≡◌ {A = Speech} (record { lines = lines; run = run; answers = answers; changes = changes }) (record { lines = others; run = more; answers = further; changes = then })
  same_speech a b c d = λ i. record { lines = a i; run = b i; answers = c i; changes = d i }

pub spoken_assoc : (past first second : Speech) → spoken_on (spoken_on past first) second ≡ spoken_on past (spoken_on first second)
spoken_assoc past first second =
    let n = length past.run in
    let m = length first.run in
    same_speech ((past.lines ++ first.lines) ++ second.lines) (past.lines ++ (first.lines ++ second.lines)) ((past.run ++ first.run) ++ second.run) (past.run ++ (first.run ++ second.run))
    ((past.answers ++ shifted n first.answers) ++ shifted (length (past.run ++ first.run)) second.answers) (past.answers ++ shifted n (first.answers ++ shifted m second.answers))
    ((past.changes ++ first.changes) ++ second.changes) (past.changes ++ (first.changes ++ second.changes)) (append_assoc past.lines first.lines second.lines) (append_assoc past.run first.run second.run)
    (append_assoc past.answers (shifted n first.answers) (shifted (length (past.run ++ first.run)) second.answers)
    ∙ ap (λ (l : List Answer). past.answers ++ l)
    (ap (λ (k : ℕ). shifted n first.answers ++ shifted k second.answers) (length-append past.run first.run) ∙ ap (λ (l : List Answer). shifted n first.answers ++ l) (sym (shifted-both n m second.answers))
    ∙ sym (shifted-append n first.answers (shifted m second.answers)))) (append_assoc past.changes first.changes second.changes)

pub spoken_none : (past : Speech) → spoken_on past unspoken ≡ past
spoken_none past =
    same_speech (past.lines ++ []) past.lines (past.run ++ []) past.run (past.answers ++ []) past.answers (past.changes ++ []) past.changes (append-nil past.lines) (append-nil past.run) (append-nil past.answers) (append-nil past.changes)

pub none_spoken : (speech : Speech) → spoken_on unspoken speech ≡ speech
none_spoken speech = same_speech speech.lines speech.lines speech.run speech.run (shifted 0 speech.answers) speech.answers speech.changes speech.changes refl refl (shifted-none speech.answers) refl

pub tells_spoken : (first second : Speech) → to_tell (spoken_on first second) ≡ joined (to_tell first) (to_tell second)
tells_spoken first second =
    tells_both (texts_of (first.answers ++ shifted (length first.run) second.answers)) (texts_of first.answers ++ texts_of second.answers) (first.changes ++ second.changes) (first.changes ++ second.changes) (texts_of_both first.answers second.answers (length first.run)) refl

pub tells_unspoken : to_tell unspoken ≡ untold
tells_unspoken = tells_both (texts_of []) [] [] [] texts_of-none refl

pub are_spoken : (first second : Speech) → AreAnswers (length first.run) first.answers → AreAnswers (length second.run) second.answers → AreAnswers (length (first.run ++ second.run)) (first.answers ++ shifted (length first.run) second.answers)
are_spoken first second are others =
    let n = length first.run in
    let m = length second.run in
    subst (λ (k : ℕ). AreAnswers k (first.answers ++ shifted n second.answers)) (sym (length-append first.run second.run))
    (are_both (n + m) first.answers (shifted n second.answers) (are_more n (n + m) first.answers (omega arith) are) (are_shifted n m second.answers others))

-- ---- what is said of all that was spoken

-- where trees are the same, so are those after the same entries
same_after : (one other : Content) (run : List Entry) → tree_of one ≡ tree_of other → tree_after one run ≡ tree_after other run
unfolding content_after
same_after one other [] same = same
same_after one other (entry ∷ run) same = refl

-- where entries lead, behind others that led to where they begin, the tree is that after both
pub behind_tree : (capacity : ℕ) (shrunk : Option ℕ) (start now next : Content) (past run : List Entry) → tree_after start past ≡ tree_of now → Leads capacity shrunk None now run next → tree_after start (past ++ run) ≡ tree_of next
behind_tree capacity shrunk start now next past run tree leads =
    let there = shrunk_in shrunk run in
    ap (λ (c : Content). tree_of c) (content_after-append start past run) ∙ same_after (content_after start past) now run tree
    ∙ sym (tidied_tree capacity there (content_after now run) next (plain_of capacity there None (content_after now run) next leads.tidied))

pub speaks_both : (number : ℕ) (now next : Content) (from between to : Spoken) (first second : Speech) → ((start : Content) (past : List Entry) → tree_after start past ≡ tree_of now → tree_after start (past ++ first.run) ≡ tree_of next)
    → Speaks number now from between first → Speaks (number + length first.lines) next between to second → Speaks number now from to (spoken_on first second)
speaks_both number now next from between to first second leads before behind start past at tree said =
    subst (λ (s : Speech). to start s) (spoken_assoc past first second)
    (behind start (spoken_on past first) (omega (arith, at, length-append past.lines first.lines)) (leads start past.run tree) (before start past at tree said))

pub speaks_none : (number : ℕ) (now : Content) (from : Spoken) → Speaks number now from from unspoken
speaks_none number now from start past at tree said = subst (λ (s : Speech). from start s) (sym (spoken_none past)) said

pub speaks_more : (number : ℕ) (now : Content) (from to further : Spoken) (speech : Speech) → ((start : Content) (all : Speech) → to start all → further start all) → Speaks number now from to speech → Speaks number now from further speech
speaks_more number now from to further speech more speaks start past at tree said = more start (spoken_on past speech) (speaks start past at tree said)

-- at the begin of a run
pub none_said : (start : Content) (from to : Spoken) → ((begun : Content) (all : Speech) → from begun all → to begun all) → Speaks 0 start from to unspoken
none_said start from to more = speaks_more 0 start from from to unspoken more (speaks_none 0 start from)

-- and before it
pub none_begun : (start : Content) (from to : Spoken) → ((begun : Content) (all : Speech) → from begun all → to begun all) → SpeaksFrom start from to unspoken
none_begun start from to more = (start, refl, none_said start from to more)

-- ---- stretches within a batch

module _ (capacity : ℕ) (shrunk : Option ℕ) (committed now : Content) (old : Outside) where
  -- nothing was done
  pub speaks_nothing : (knows : Knowing) (space : Space) (number : ℕ) (from : Spoken) → Stands knows committed now shrunk space old → SpeaksOn capacity knows committed now shrunk old number from from [] untold space old
  speaks_nothing knows space number from stands = record {
    speech = unspoken;
    last = committed;
    next = now;
    goes = goes_none capacity shrunk committed now old space stands.below stands.reads stands.leaves;
    heads = stands.heads;
    known = subst (λ (s : Option ℕ). knows committed now s) (sym (shrunk_in-none shrunk)) stands.known;
    asked = refl;
    are = tt;
    told = tells_unspoken;
    speaks = speaks_none number now from;
  }

  module _ (number : ℕ) (from to : Spoken) (lines : List (List ℕ)) (knows : Knowing) (said : ToTell) (space : Space) (mid : Outside) (goes : SpeaksOn capacity knows committed now shrunk old number from to lines said space mid) where
    abbrev here : Option ℕ
    here = shrunk_in shrunk goes.speech.run

    pub stands_spoken : Stands knows goes.last goes.next here space mid
    stands_spoken = record { known = goes.known; below = goes.goes.below; reads = goes.goes.reads; heads = goes.heads; leaves = goes.goes.leaves }

    asked_both : (second : Speech) (others : List (List ℕ)) → second.lines ≡ others → goes.speech.lines ++ second.lines ≡ lines ++ others
    asked_both second others asked = ap (λ (l : List (List ℕ)). l ++ second.lines) goes.asked ∙ ap (λ (l : List (List ℕ)). lines ++ l) asked

    module _ (behind : ℕ) (at : behind ≡ number + length goes.speech.lines) (further : Spoken) where
      speech_both : (second : Speech) → Speaks behind goes.next to further second → Speaks number now from further (spoken_on goes.speech second)
      speech_both second speaks =
          speaks_both number now goes.next from to further goes.speech second (λ start past tree. behind_tree capacity shrunk start now goes.next past goes.speech.run tree goes.goes.leads) goes.speaks
          (subst (λ (n : ℕ). Speaks n goes.next to further second) at speaks)

      -- another behind it
      pub spoken_both : (knows_new : Knowing) (others : List (List ℕ)) (then : ToTell) (new : Space) (after : Outside) → SpeaksOn capacity knows_new goes.last goes.next here mid behind to further others then new after
          → SpeaksOn capacity knows_new committed now shrunk old number from further (lines ++ others) (joined said then) new after
      spoken_both knows_new others then new after second = record {
        speech = spoken_on goes.speech second.speech;
        last = second.last;
        next = second.next;
        goes = goes_both capacity shrunk committed now old goes.speech.run second.speech.run goes.last goes.next space mid goes.goes second.last second.next new after second.goes;
        heads = second.heads;
        known = subst (λ (s : Option ℕ). knows_new second.last second.next s) (sym (shrunk_in-append shrunk goes.speech.run second.speech.run)) second.known;
        asked = asked_both second.speech others second.asked;
        are = are_spoken goes.speech second.speech goes.are second.are;
        told = tells_spoken goes.speech second.speech ∙ ap (λ (t : ToTell). joined t (to_tell second.speech)) goes.told ∙ ap (λ (t : ToTell). joined said t) second.told;
        speaks = speech_both second.speech second.speaks;
      }

      -- a fault behind it
      pub spoken_stops : (others : List (List ℕ)) (after : Outside) → StopsSpeaking capacity goes.last goes.next here mid behind to further others after → StopsSpeaking capacity committed now shrunk old number from further (lines ++ others) after
      spoken_stops others after second = record {
        speech = spoken_on goes.speech second.speech;
        asked = asked_both second.speech others second.asked;
        are = are_spoken goes.speech second.speech goes.are second.are;
        speaks = speech_both second.speech second.speaks;
        stops = goes_stops capacity shrunk committed now old goes.speech.run second.speech.run goes.last goes.next space mid goes.goes after second.stops;
      }

-- a fault in which no entry was made
pub stops_unspoken : (capacity : ℕ) (shrunk : Option ℕ) (committed now : Content) (old new : Outside) (number : ℕ) (from to : Spoken) → ((start : Content) (all : Speech) → from start all → to start all) → StopsOn capacity committed now shrunk old [] new → StopsSpeaking capacity committed now shrunk old number from to [] new
stops_unspoken capacity shrunk committed now old new number from to more stopped = record {
  speech = record { lines = []; run = stopped.more; answers = []; changes = [] };
  asked = refl;
  are = tt;
  speaks = speaks_more number now from from to (record { lines = []; run = stopped.more; answers = []; changes = [] }) more (nothing stopped.more stopped.asked);
  stops = stopped.stops;
}
  where
    nothing : (run : List Entry) → Rattle.volume_runs.specs.Run.lines_of run ≡ [] → Speaks number now from from (record { lines = []; run = run; answers = []; changes = [] })
    nothing [] none = speaks_none number now from
    nothing (entry ∷ run) none = absurd (cc none)

-- a fault before the first of some lines
pub begin_stops : (capacity : ℕ) (shrunk : Option ℕ) (committed now : Content) (old new : Outside) (number : ℕ) (from to : Spoken) (lines : List (List ℕ)) → StopsSpeaking capacity committed now shrunk old number from to [] new → StopsLines capacity committed now shrunk old number from to lines new
begin_stops capacity shrunk committed now old new number from to lines stopped = record { count = 0; stops = stopped }

-- ---- lines of a batch

module _ (capacity : ℕ) (shrunk : Option ℕ) (committed now : Content) (old : Outside) (number : ℕ) (from to : Spoken) (lines : List (List ℕ)) (before : ToTell) where
  -- what was done ahead of them
  pub spoken_ahead : (knows : Knowing) (space : Space) (mid : Outside) → SpeaksOn capacity knows committed now shrunk old number from to [] untold space mid → SpeaksLines 0 capacity knows committed now shrunk old number from to lines before before space mid
  spoken_ahead knows space mid goes = record { said = untold; told = sym (joined_none before); goes = goes }

  module _ (count : ℕ) (few : count ≤ length lines) (knows : Knowing) (middle : ToTell) (space : Space) (mid : Outside) (first : SpeaksLines count capacity knows committed now shrunk old number from to lines before middle space mid) where
    pub stands_in_lines : Stands knows first.goes.last first.goes.next (shrunk_in shrunk first.goes.speech.run) space mid
    stands_in_lines = stands_spoken capacity shrunk committed now old number from to (take count lines) knows first.said space mid first.goes

    behind_them : number + count ≡ number + length first.goes.speech.lines
    behind_them = omega (arith, ap (λ (l : List (List ℕ)). length l) first.goes.asked, length-take-le count lines few)

    -- a fault in the next line, which was begun or wasn't
    pub lines_stop : (further : Spoken) (begun : Bool) (line : List ℕ) (after : Outside) (many : ℕ) → take count lines ++ line_if begun line ≡ take many lines → StopsSpeaking capacity first.goes.last first.goes.next (shrunk_in shrunk first.goes.speech.run) mid (number + count) to further (line_if begun line) after
        → StopsLines capacity committed now shrunk old number from further lines after
    lines_stop further begun line after many are second = record {
      count = many;
      stops =
          subst (λ (l : List (List ℕ)). StopsSpeaking capacity committed now shrunk old number from further l after) are
          (spoken_stops capacity shrunk committed now old number from to (take count lines) knows first.said space mid first.goes (number + count) behind_them further (line_if begun line) after second);
    }

    -- a fault that comes when no line is being served
    pub lines_end : (further : Spoken) → ((start : Content) (all : Speech) → to start all → further start all) → (after : Outside) → StopsOn capacity first.goes.last first.goes.next (shrunk_in shrunk first.goes.speech.run) mid [] after → StopsLines capacity committed now shrunk old number from further lines after
    lines_end further more after stopped = lines_stop further false [] after count (append-nil (take count lines)) (stops_unspoken capacity (shrunk_in shrunk first.goes.speech.run) first.goes.last first.goes.next mid after (number + count) to further more stopped)

    -- a fault in the next line, of which it says whether it was begun
    pub line_stops : (further : Spoken) (line : List ℕ) (after : Outside) → take count lines ++ line ∷ [] ≡ take (count + 1) lines
        → (begun : Bool) × StopsSpeaking capacity first.goes.last first.goes.next (shrunk_in shrunk first.goes.speech.run) mid (number + count) to further (line_if begun line) after → StopsLines capacity committed now shrunk old number from further lines after
    line_stops further line after next stopped = go stopped.0 stopped.1
      where
        go : (begun : Bool) → StopsSpeaking capacity first.goes.last first.goes.next (shrunk_in shrunk first.goes.speech.run) mid (number + count) to further (line_if begun line) after → StopsLines capacity committed now shrunk old number from further lines after
        go true second = lines_stop further true line after (count + 1) next second
        go false second = lines_stop further false line after count (append-nil (take count lines)) second

    -- one more, or none
    pub lines_on : (further : Spoken) (knows_new : Knowing) (served : Bool) (line : List ℕ) (after : ToTell) (new : Space) (end : Outside) (many : ℕ) → take count lines ++ line_if served line ≡ take many lines
        → SpeaksLine served capacity knows_new first.goes.last first.goes.next (shrunk_in shrunk first.goes.speech.run) mid (number + count) to further line middle after new end → SpeaksLines many capacity knows_new committed now shrunk old number from further lines before after new end
    lines_on further knows_new served line after new end many are second = record {
      said = joined first.said second.said;
      told = second.told ∙ ap (λ (t : ToTell). joined t second.said) first.told ∙ joined_both before first.said second.said;
      goes =
          subst (λ (l : List (List ℕ)). SpeaksOn capacity knows_new committed now shrunk old number from further l (joined first.said second.said) new end) are
          (spoken_both capacity shrunk committed now old number from to (take count lines) knows first.said space mid first.goes (number + count) behind_them further knows_new (line_if served line) second.said new end second.goes);
    }

-- ---- the end of a batch

-- behind the last line housekeeping came to rest, and all is committed
module _ (count : ℕ) (capacity : ℕ) (shrunk : Option ℕ) (start : Content) (old : Outside) (number : ℕ) (from to : Spoken) (lines : List (List ℕ)) (few : count ≤ length lines) (before after : ToTell) (knows : Knowing) (space : Space) (mid : Outside)
    (first : SpeaksLines count capacity knows start start shrunk old number from to lines before after space mid) (knows_mid : Knowing) (new : Space) (end : Outside) (second : GoesRested capacity None knows_mid first.goes.last first.goes.next (shrunk_in shrunk first.goes.speech.run) mid new end) where
  pub stands_rested : Stands knows_mid second.tidy.last second.tidy.next (shrunk_in shrunk first.goes.speech.run) new end
  stands_rested = stands_there capacity (shrunk_in shrunk first.goes.speech.run) first.goes.last first.goes.next mid knows_mid new end second.tidy

  pub rested_stops : (further : Spoken) → ((start : Content) (all : Speech) → to start all → further start all) → (out : Outside) → MayCommit new end out → StopsLines capacity start start shrunk old number from further lines out
  rested_stops further more out may =
      lines_end capacity shrunk start start old number from to lines before count few knows after space mid first further more out
      (commit_stops_tidy capacity (shrunk_in shrunk first.goes.speech.run) first.goes.last first.goes.next mid knows_mid new end second.tidy out may)

  pub batch_rests : (knows_new : Knowing) (last : Space) (out : Outside) → Commits new end last out → Stays knows_new second.tidy.next second.tidy.next (shrunk_in shrunk first.goes.speech.run) last → SpeaksBatch count capacity knows_new start shrunk old number from to lines before after last out
  batch_rests knows_new last out commits stays =
      let speech = first.goes.speech in
      let next = second.tidy.next in
      let same : speech.run ++ [] ≡ speech.run = append-nil speech.run in
      record {
        said = first.said;
        told = first.told;
        whole = record {
          speech = speech;
          now = next;
          goes =
              subst (λ (r : List Entry). Goes capacity shrunk None start start old r next next last out) same
              (commit_goes_here capacity shrunk start start old (speech.run ++ []) second.tidy.last next new end
              (goes_both capacity shrunk start start old speech.run [] first.goes.last first.goes.next space mid first.goes.goes second.tidy.last next new end second.tidy.goes) last out commits);
          heads = stays.heads;
          known = stays.known;
          asked = first.goes.asked;
          are = first.goes.are;
          told = first.goes.told;
          speaks = first.goes.speaks;
          rests =
              subst (λ (r : List Entry). Rattle.hfs_serving.specs.Runs.LeadsToRest capacity shrunk None start r next) same
              (leads_to_rest capacity shrunk start speech.run [] first.goes.next first.goes.goes.leads None next second.rests);
        };
      }
