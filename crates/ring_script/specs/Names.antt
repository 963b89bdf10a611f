-- The names and numbers of acts.
use Rattle.std.specs.Prelude.{ℕ, ◌&&◌, nat_le, List, [], ◌∷◌, Option, Some, None, codes, option_map, if◌then◌else◌}
use Rattle.tx_model.specs.declared.gate.Region.{Region}
use Rattle.tx_model.specs.declared.word.Word.{Word}
use Rattle.ring_runs.specs.declared.event.Act.{Act}
use Rattle.ring_runs.specs.declared.event.Act.TheVariants as act
use Rattle.ring_script.specs.declared.name.Name.{Name}
use Rattle.ring_script.specs.declared.name.Name.TheVariants as name

-- the token
abbrev pub text_of : Name → List ℕ
text_of name.Begin = codes "begin"
text_of name.Read = codes "read"
text_of name.Write = codes "write"
text_of name.Stamp = codes "stamp"
text_of name.Turn = codes "turn"
text_of name.Done = codes "done"
text_of name.GiveUp = codes "give-up"
text_of name.Seal = codes "seal"
text_of name.Publish = codes "publish"
text_of name.Load = codes "load"
text_of name.Store = codes "store"
text_of name.Step = codes "step"
text_of name.Run = codes "run"

-- what numbers are, where there are as many
abbrev pub one_in : List ℕ → Option ℕ
one_in (number ∷ []) = Some number
one_in _ = None

abbrev pub word_in : List ℕ → Option Word
word_in (addr ∷ value ∷ []) = Some (record { addr = addr; value = value })
word_in _ = None

abbrev pub region_in : List ℕ → Option Region
region_in (gate ∷ base ∷ len ∷ []) = Some (record { gate = gate; base = base; len = len })
region_in _ = None

abbrev pub without : List ℕ → Act → Option Act
without [] a = Some a
without (number ∷ numbers) a = None

abbrev pub steps_of : ℕ → Option Act
steps_of count = if nat_le 1 count && nat_le count 1000000 then Some (act.Step count) else None

-- the act of this name with these numbers
abbrev pub act_named : Name → List ℕ → Option Act
act_named name.Begin numbers = without numbers act.Begin
act_named name.Read numbers = option_map (λ addr. act.Read addr) (one_in numbers)
act_named name.Write numbers = option_map (λ (w : Word). act.Write w.addr w.value) (word_in numbers)
act_named name.Stamp numbers = without numbers act.Stamp
act_named name.Turn numbers = without numbers act.Turn
act_named name.Done numbers = without numbers act.Done
act_named name.GiveUp numbers = without numbers act.GiveUp
act_named name.Seal numbers = option_map (λ region. act.Seal region) (one_in numbers)
act_named name.Publish numbers = option_map (λ region. act.Publish region) (one_in numbers)
act_named name.Load numbers = option_map (λ addr. act.Load addr) (one_in numbers)
act_named name.Store numbers = option_map (λ (w : Word). act.Store w.addr w.value) (word_in numbers)
act_named name.Step (count ∷ []) = steps_of count
act_named name.Step _ = None
act_named name.Run numbers = without numbers act.Run
