-- The generated stream, line by line.
use Rattle.std.specs.Prelude.{ℕ, ◌+◌, ◌*◌, ◌/◌, ◌%◌, ◌==◌, List, [], ◌∷◌, ◌++◌, codes, decimal, if◌then◌else◌}

-- eight decimal digits of a number, with leading zeros
abbrev pub eight_digits : ℕ → List ℕ
eight_digits n =
    (48 + n / 10000000 % 10) ∷ (48 + n / 1000000 % 10) ∷ (48 + n / 100000 % 10) ∷ (48 + n / 10000 % 10) ∷ (48 + n / 1000 % 10) ∷ (48 + n / 100 % 10) ∷ (48 + n / 10 % 10) ∷ (48 + n % 10) ∷ []

-- the value that a line writes: the seed times the line's number, counted from 1, in its last eight digits
abbrev pub value_of : ℕ → ℕ → List ℕ
value_of seed i = eight_digits (seed * (i + 1) % 100000000)

-- the folder of a group of eight lines
abbrev pub folder_of : ℕ → List ℕ
folder_of i = codes " /d" ++ decimal (i / 8)

-- The line with this number, from 0. Each eight lines make a folder, a file in it, write, link, mark, move, write
-- again and remove the first name.
abbrev pub line_of : ℕ → ℕ → List ℕ
line_of seed i =
    if i % 8 == 0 then codes "mkdir" ++ folder_of i
    else if i % 8 == 1 then codes "create" ++ folder_of i ++ codes "/a"
    else if i % 8 == 2 then codes "write" ++ folder_of i ++ codes "/a 0 =" ++ value_of seed i
    else if i % 8 == 3 then codes "ln" ++ folder_of i ++ codes "/a" ++ folder_of i ++ codes "/b"
    else if i % 8 == 4 then codes "setattr" ++ folder_of i ++ codes " k =" ++ value_of seed i
    else if i % 8 == 5 then codes "mv" ++ folder_of i ++ codes "/b" ++ folder_of i ++ codes "/c"
    else if i % 8 == 6 then codes "write" ++ folder_of i ++ codes "/c 4 =" ++ value_of seed i
    else codes "rm" ++ folder_of i ++ codes "/a"
