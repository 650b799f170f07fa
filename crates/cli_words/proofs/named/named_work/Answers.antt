use Rattle.std.proofs.Common.{◌≡◌, ◌↔◌, ◌∙◌, ◌∷◌, [], List, ℕ, IsTrue, length, ap, arith, rules, codes}
use Rattle.std.specs.Prelude.{string_bytes}
use Rattle.cli_words.specs.Words.{MayName, texts}
use Rattle.cli_words.proofs.Usage.{words_of_format, words_of_gen}
use Rattle.cli_words.proofs.WordLists.{two_words, three_words}
use Rattle.cli_words.proofs.named.named_work.Goals as goal

pub returns-then-eq : goal.returns-then-eq
returns-then-eq c =
    let two : length c.args.words.now ≡ 2 = omega arith in
    let words = two_words c.args.words.now c.verb-item.result c.image-item.result two c.verb-item.is c.image-item.is in
    let verb : IsTrue c.eq.result ↔ (string_bytes c.verb-item.result ≡ codes "run") = search rules in
    let named : MayName (string_bytes c.image-item.result) = search rules in
    (string_bytes c.image-item.result, named, words ∙ ap (λ (t : List ℕ). t ∷ string_bytes c.image-item.result ∷ []) (verb.0 c.if-eq.true))

pub returns-then-eq-2 : goal.returns-then-eq-2
returns-then-eq-2 c =
    let two : length c.args.words.now ≡ 2 = omega arith in
    let words = two_words c.args.words.now c.verb-item.result c.image-item.result two c.verb-item.is c.image-item.is in
    let verb : IsTrue c.eq-in-len2.result ↔ (string_bytes c.verb-item.result ≡ codes "check") = search rules in
    let named : MayName (string_bytes c.image-item.result) = search rules in
    (string_bytes c.image-item.result, named, words ∙ ap (λ (t : List ℕ). t ∷ string_bytes c.image-item.result ∷ []) (verb.0 c.if-eq-2.true))

pub returns-then-eq-3 : goal.returns-then-eq-3
returns-then-eq-3 c =
    let two : length c.args.words.now ≡ 2 = omega arith in
    let words = two_words c.args.words.now c.verb-item.result c.image-item.result two c.verb-item.is c.image-item.is in
    let verb : IsTrue c.eq-in-len2-2.result ↔ (string_bytes c.verb-item.result ≡ codes "repair") = search rules in
    let named : MayName (string_bytes c.image-item.result) = search rules in
    (string_bytes c.image-item.result, named, words ∙ ap (λ (t : List ℕ). t ∷ string_bytes c.image-item.result ∷ []) (verb.0 c.if-eq-3.true))

pub returns-then-eq-4 : goal.returns-then-eq-4
returns-then-eq-4 c =
    let two : length c.args.words.now ≡ 2 = omega arith in
    let words = two_words c.args.words.now c.verb-item.result c.image-item.result two c.verb-item.is c.image-item.is in
    let verb : IsTrue c.eq-in-len2-3.result ↔ (string_bytes c.verb-item.result ≡ codes "sessions") = search rules in
    let named : MayName (string_bytes c.image-item.result) = search rules in
    (string_bytes c.image-item.result, named, words ∙ ap (λ (t : List ℕ). t ∷ string_bytes c.image-item.result ∷ []) (verb.0 c.if-eq-4.true))

pub returns-then-eq-5 : goal.returns-then-eq-5
returns-then-eq-5 c =
    let three : length c.args.words.now ≡ 3 = omega arith in
    let words = three_words c.args.words.now c.verb-item-then-words-lt4.result c.first-item.result c.second-item.result three c.verb-item-then-words-lt4.is c.first-item.is c.second-item.is in
    let verb : IsTrue c.eq-in-len3.result ↔ (string_bytes c.verb-item-then-words-lt4.result ≡ codes "format") = search rules in
    words_of_format (texts c.args.words.now) (string_bytes c.first-item.result) (string_bytes c.second-item.result) c.read_format.result
    (words ∙ ap (λ (t : List ℕ). t ∷ string_bytes c.first-item.result ∷ string_bytes c.second-item.result ∷ []) (verb.0 c.if-eq-5.true)) (search rules)

pub returns-then-eq-6 : goal.returns-then-eq-6
returns-then-eq-6 c =
    let three : length c.args.words.now ≡ 3 = omega arith in
    let words = three_words c.args.words.now c.verb-item-then-words-lt4.result c.first-item.result c.second-item.result three c.verb-item-then-words-lt4.is c.first-item.is c.second-item.is in
    let verb : IsTrue c.eq-in-len3-2.result ↔ (string_bytes c.verb-item-then-words-lt4.result ≡ codes "gen") = search rules in
    words_of_gen (texts c.args.words.now) (string_bytes c.first-item.result) (string_bytes c.second-item.result) c.read_gen.result
    (words ∙ ap (λ (t : List ℕ). t ∷ string_bytes c.first-item.result ∷ string_bytes c.second-item.result ∷ []) (verb.0 c.if-eq-6.true)) (search rules)
