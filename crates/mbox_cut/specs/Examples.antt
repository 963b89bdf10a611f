-- A mailbox of three messages.
use Rattle.std.specs.Prelude.{ℕ, List, ◌++◌, codes}

abbrev pub first_of_three : List ℕ
first_of_three = codes "From alice@example.org Mon Mar  3 09:15:02 2008\nSubject: Ring test\n\nHello ring\n\n"

abbrev pub second_of_three : List ℕ
second_of_three = codes "From bob@example.org Mon Mar  3 09:20:00 2008\nSubject: other\n\nhello bloom\n\n"

abbrev pub third_of_three : List ℕ
third_of_three = codes "From carol@example.org Mon Mar  3 09:25:00 2008\nRING bloom bloom\n\n"

abbrev pub three_messages : List ℕ
three_messages = first_of_three ++ second_of_three ++ third_of_three
