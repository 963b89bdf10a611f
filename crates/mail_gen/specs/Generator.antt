-- The mailbox that is made from a number: its messages one after the other, each given by its lines.
use Rattle.std.specs.Prelude.{ℕ, ◌+◌, ◌-◌, ◌*◌, ◌/◌, ◌%◌, ◌^◌, List, [], ◌∷◌, ◌++◌, map, codes, decimal}
use Rattle.std.specs.List.{concat, join_with_byte, range_with_len}

-- 2 ^ 64 over the golden ratio, made odd: the products of the numbers from 1 on with it are spread evenly
abbrev pub multiplier : ℕ
multiplier = 0x9E3779B97F4A7C15

-- the highest sixteen bits of a number's product with the multiplier
abbrev pub top_bits : ℕ → ℕ
top_bits number = number * multiplier % 2 ^ 64 / 2 ^ 48

-- the word with a number
unfoldable pub word : ℕ → List ℕ
word number = codes "w" ++ decimal (top_bits number)

-- a line of twelve words, from the one with this number on
unfoldable pub line_of_words : ℕ → List ℕ
line_of_words first = join_with_byte 32 (map word (range_with_len first 12)) ++ 10 ∷ []

-- the separator of each message
unfoldable pub separator : List ℕ
separator = codes "From gen@example.org Thu Jan  1 00:00:00 1970\n"

-- the line that names the message and its last digit
unfoldable pub subject : ℕ → List ℕ
subject number = codes "Subject: m" ++ decimal number ++ codes " d" ++ decimal (number % 10) ++ codes "\n"

-- the four lines of words: message 1 has the words 1 to 48, and each further one the next 48
abbrev pub body_line : ℕ → ℕ → List ℕ
body_line number line = line_of_words (48 * (number - 1) + 12 * line + 1)

abbrev pub body : ℕ → List ℕ
body number = concat (map (body_line number) (range_with_len 0 4))

-- the text of a message: its subject, an empty line, its words, and an empty line
abbrev pub text : ℕ → List ℕ
text number = subject number ++ codes "\n" ++ body number ++ codes "\n"

-- a message with its separator
abbrev pub message : ℕ → List ℕ
message number = separator ++ text number

-- the messages from 1 to their number
abbrev pub mailbox : ℕ → List ℕ
mailbox count = concat (map message (range_with_len 1 count))
