-- From bytes to lines, words and numbers. Assumes nothing.
use Rattle.std.specs.Prelude.{ℕ, ◌+◌, ◌-◌, ◌*◌, min, Bool, true, cond, not, ◌&&◌, ◌||◌, List, [], ◌∷◌, map, Option, ◌==◌, nat_le}
use Rattle.roots.specs.First.{first}

-- the bytes before the first that passes the test, and those behind it
abbrev pub before : (ℕ → Bool) → List ℕ → List ℕ
before p [] = []
before p (b ∷ bs) = cond (p b) [] (b ∷ before p bs)

abbrev pub behind : (ℕ → Bool) → List ℕ → List ℕ
behind p [] = []
behind p (b ∷ bs) = cond (p b) bs (behind p bs)

abbrev pub newline : ℕ → Bool
newline b = b == 10

-- a space, a tab, a newline or a carriage return
abbrev pub blank : ℕ → Bool
blank b = b == 32 || (b == 9 || (b == 10 || b == 13))

-- the first line of a text, and the text behind it
abbrev pub line : List ℕ → List ℕ
line bs = before newline bs

abbrev pub after_line : List ℕ → List ℕ
after_line bs = behind newline bs

-- the word w, unless it is empty, before ws
abbrev pub word_before : List ℕ → List (List ℕ) → List (List ℕ)
word_before [] ws = ws
word_before (b ∷ bs) ws = (b ∷ bs) ∷ ws

-- the words behind the first blank
abbrev pub later_words : List ℕ → List (List ℕ)
later_words [] = []
later_words (b ∷ bs) = cond (blank b) (word_before (before blank bs) (later_words bs)) (later_words bs)

-- the words of a text, parted by blanks
abbrev pub words : List ℕ → List (List ℕ)
words bs = word_before (before blank bs) (later_words bs)

-- a word of decimal digits alone
abbrev pub digits : List ℕ → Bool
digits [] = true
digits (b ∷ bs) = (nat_le 48 b && nat_le b 57) && digits bs

-- the number that digits write behind n
abbrev pub number_behind : ℕ → List ℕ → ℕ
number_behind n [] = n
number_behind n (b ∷ bs) = number_behind (10 * n + (b - 48)) bs

abbrev pub numbers : List (List ℕ) → List ℕ
numbers ws = map (number_behind 0) ws

-- the place, from 1, of the first word that is no number
abbrev pub first_wrong : List (List ℕ) → Option ℕ
first_wrong ws = first (λ w. not (digits w)) ws

-- numbers of which the larger ones are brought down to a limit
abbrev pub at_most : ℕ → List ℕ → List ℕ
at_most limit xs = map (λ x. min x limit) xs
