-- Queries and a table for worked examples.
use Rattle.std.specs.Prelude.{[], ◌∷◌, codes}
use Rattle.mail_words.specs.Key.{KeyNumbers, key_of}
use Rattle.mail_query.specs.declared.query.Query.{Query}
use Rattle.mail_query.specs.declared.query.Query.TheVariants.{Word, Not, All, Any}
use Rattle.mail_query.specs.Answers.{Table}

abbrev pub hello : KeyNumbers
hello = key_of (codes "hello")

abbrev pub ring : KeyNumbers
ring = key_of (codes "ring")

abbrev pub bloom : KeyNumbers
bloom = key_of (codes "bloom")

abbrev pub subject : KeyNumbers
subject = key_of (codes "subject")

-- hello !ring
abbrev pub hello_without_ring : Query
hello_without_ring = All (record { members = Word hello ∷ Not (Word ring) ∷ [] })

-- ring|bloom
abbrev pub ring_or_bloom : Query
ring_or_bloom = Any (record { members = Word ring ∷ Word bloom ∷ [] })

-- The first message has subject, ring and hello, the second hello, subject and bloom, the third ring and bloom.
abbrev pub three_messages : Table
three_messages = (subject, 1) ∷ (hello, 2) ∷ (ring, 3) ∷ (ring, 1) ∷ (subject, 2) ∷ (hello, 1) ∷ (bloom, 2) ∷ (bloom, 3) ∷ []
