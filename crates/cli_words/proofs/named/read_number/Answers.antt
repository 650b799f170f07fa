use Rattle.std.proofs.Common.{◌≡◌, ◌↔◌, ◌∙◌, ℕ, IsTrue, Result, Ok, Err, sym, ap, rules, Bool, true, false}
use Rattle.std.proofs.lemmas.Fmt.{parse-decimal}
use Rattle.std.specs.Fmt.{decimal}
use Rattle.cli_words.proofs.named.read_number.Goals as goal

same_number : (a b : ℕ) → ◌≡◌ {A = Result ℕ ℕ} (Ok a) (Ok b) → a ≡ b
same_number a b same = cc same

no_test : (test : Bool) → test ≡ true → test ≡ false → ⊥
no_test test is none = absurd (cc (is, none))

pub returns-in-Err : goal.returns-in-Err
returns-in-Err c n small is = absurd (cc (parse-decimal {E = ℕ} 64 n c.args.word.now (Err 0) small small is c.in-Err.ensures.value.0))

pub returns-else-eq : goal.returns-else-eq
returns-else-eq c n small is =
    let number = same_number c.in-Ok.number n (parse-decimal {E = ℕ} 64 n c.args.word.now (Ok c.in-Ok.number) small small is c.in-Ok.ensures.value.0) in
    let test : IsTrue c.eq.result ↔ (c.format.result.now ≡ c.args.word.now) = search rules in
    no_test c.eq.result (test.1 (c.format.ensures.text ∙ ap decimal number ∙ sym is)) c.if-eq.false
