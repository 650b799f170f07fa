-- What a call without memory makes of the script.
use Rattle.std.proofs.Common.{◌≡◌, ◌≤◌, ◌+◌, ◌-◌, ◌++◌, ◌∷◌, [], ℕ, List, Bool, true, false, Result, Ok, Err, OnOk, OnErr, is_err, inl, inr, length, take, ◌∙◌, ap, arith, length-append, length-take}
use Rattle.sector_disk.specs.Cause.{next_count}
use Rattle.sector_disk.specs.Disk.{ToldPrefix}
use Rattle.mem_disk.specs.Script.{Script, CountsWrite, SpendsRoom}

-- its number was noted
pub counts_noted : {T E : Type 0} (result : Result T E) (is_bad : Bool) (old now new : Script) → now.starved ≤ new.starved → is_bad ≡ is_err result → is_bad ≡ false
    → OnOk result (now ≡ record old { calls = next_count old.calls; writes = old.writes ++ old.calls ∷ [] }) → new ≡ record now { starved = next_count now.starved } → CountsWrite old new
counts_noted (Ok x) is_bad old now new more bad good noted starved =
    let is : new ≡ record old { calls = next_count old.calls; writes = old.writes ++ old.calls ∷ []; starved = next_count old.starved } = starved ∙ ap (λ (s : Script). record s { starved = next_count s.starved }) noted in
    record {
      calls = ap (λ (s : Script). s.calls) is;
      failing = ap (λ (s : Script). s.failing) is;
      stop = ap (λ (s : Script). s.stop) is;
      room = ap (λ (s : Script). s.room) is;
      starved = omega (arith, more, ap (λ (s : Script). s.starved) noted);
      noted = inl (ap (λ (s : Script). s.writes) is);
    }
counts_noted (Err e) is_bad old now new more bad good noted starved = cc

-- there was no memory for its number
pub counts_starved : {T E : Type 0} (result : Result T E) (is_bad : Bool) (old now new : Script) → now.starved ≤ new.starved → is_bad ≡ is_err result → is_bad ≡ true
    → OnErr result (now ≡ record old { calls = next_count old.calls }) → new ≡ record now { starved = next_count now.starved } → CountsWrite old new
counts_starved (Err e) is_bad old now new more bad good counted starved =
    let is : new ≡ record old { calls = next_count old.calls; starved = next_count old.starved } = starved ∙ ap (λ (s : Script). record s { starved = next_count s.starved }) counted in
    record {
      calls = ap (λ (s : Script). s.calls) is;
      failing = ap (λ (s : Script). s.failing) is;
      stop = ap (λ (s : Script). s.stop) is;
      room = ap (λ (s : Script). s.room) is;
      starved = omega (arith, more, ap (λ (s : Script). s.starved) counted);
      noted = inr (omega (arith, ap (λ (s : Script). s.starved) is), ap (λ (s : Script). s.writes) is);
    }
counts_starved (Ok x) is_bad old now new more bad good counted starved = cc

-- the sink took a front, and then there was no memory
pub spends_starved : {T E : Type 0} (result : Result T E) (is_bad : Bool) (old spent new : Script) (told bytes now : List ℕ) (count before after : ℕ) → spent.starved ≤ new.starved → is_bad ≡ is_err result → is_bad ≡ true
    → OnErr result (ToldPrefix told (take count bytes) now) → count ≤ old.room → before ≡ length told → after ≡ length now
    → spent ≡ record old { room = old.room - (after - before) } → new ≡ record spent { starved = next_count spent.starved } → SpendsRoom old new told now
spends_starved (Err e) is_bad old spent new told bytes now count before after more bad good front fits was is spends starved =
    let long : length now ≡ length told + length (take front.0 (take count bytes)) = ap length front.2 ∙ length-append told (take front.0 (take count bytes)) in
    let short : length (take front.0 (take count bytes)) ≤ count = omega (arith, length-take front.0 (take count bytes), length-take count bytes) in
    let same : new ≡ record old { room = old.room - (after - before); starved = next_count old.starved } = starved ∙ ap (λ (s : Script). record s { starved = next_count s.starved }) spends in
    record {
      calls = ap (λ (s : Script). s.calls) same;
      failing = ap (λ (s : Script). s.failing) same;
      stop = ap (λ (s : Script). s.stop) same;
      room = omega (arith, ap (λ (s : Script). s.room) same, long, short, fits, was, is);
      starved = omega (arith, more, ap (λ (s : Script). s.starved) spends);
      writes = ap (λ (s : Script). s.writes) same;
    }
spends_starved (Ok x) is_bad old spent new told bytes now count before after more bad good front fits was is spends starved = cc
