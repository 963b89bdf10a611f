-- Worked examples: command lines, and what they ask for.
use Rattle.std.specs.Prelude.{◌≡◌, true, false, [], ◌∷◌, Some, None, codes, replicate}
use Rattle.mail_line.specs.CommandLine.{settings_of, replay, ask}

-- options stand anywhere before `--`, with their value behind a space or an equals sign
abbrev pub OptionExamples : Type 0
OptionExamples =
    (settings_of (codes "--workers" ∷ codes "3" ∷ codes "--" ∷ codes "ring" ∷ []) ≡ Some (ask 3 1024 1024 false None (codes "ring" ∷ [])))
    × (settings_of (codes "--workers=3" ∷ codes "ring" ∷ []) ≡ Some (ask 3 1024 1024 false None (codes "ring" ∷ [])))
    × (settings_of (codes "ring" ∷ codes "--workers" ∷ codes "3" ∷ []) ≡ Some (ask 3 1024 1024 false None (codes "ring" ∷ [])))
    × (settings_of (codes "--generate" ∷ codes "100000" ∷ codes "d7" ∷ []) ≡ Some (ask 4 1024 1024 false (Some 100000) (codes "d7" ∷ [])))
    × (settings_of (codes "--generate=0" ∷ codes "--workers" ∷ codes "1" ∷ codes "x" ∷ []) ≡ Some (ask 1 1024 1024 false (Some 0) (codes "x" ∷ [])))

-- a number is 1 to 9 digits, within its bounds
abbrev pub NumberExamples : Type 0
NumberExamples =
    (settings_of (codes "--workers" ∷ codes "064" ∷ codes "x" ∷ []) ≡ Some (ask 64 1024 1024 false None (codes "x" ∷ [])))
    × (settings_of (codes "--workers" ∷ []) ≡ None)
    × (settings_of (codes "--workers" ∷ codes "0" ∷ codes "x" ∷ []) ≡ None)
    × (settings_of (codes "--workers" ∷ codes "065" ∷ codes "x" ∷ []) ≡ None)
    × (settings_of (codes "--workers" ∷ codes "0000000064" ∷ codes "x" ∷ []) ≡ None)
    × (settings_of (codes "--workers" ∷ codes "1000000000" ∷ codes "x" ∷ []) ≡ None)
    × (settings_of (codes "--workers" ∷ codes "-3" ∷ codes "x" ∷ []) ≡ None)
    × (settings_of (codes "--workers=-3" ∷ codes "x" ∷ []) ≡ None)
    × (settings_of (codes "--workers" ∷ codes "+3" ∷ codes "x" ∷ []) ≡ None)
    × (settings_of (codes "--workers=" ∷ codes "x" ∷ []) ≡ None)
    × (settings_of (codes "--workers" ∷ codes "-" ∷ codes "x" ∷ []) ≡ None)
    × (settings_of (codes "--workers" ∷ codes "--" ∷ codes "x" ∷ []) ≡ None)
    × (settings_of (codes "--generate" ∷ codes "100001" ∷ codes "x" ∷ []) ≡ None)
    × (settings_of (codes "--generate" ∷ codes "x" ∷ []) ≡ None)

-- a ring has 1 to 4,096 entries
abbrev pub RingExamples : Type 0
RingExamples =
    (settings_of (codes "--ring" ∷ codes "1" ∷ codes "x" ∷ []) ≡ Some (ask 4 1 1024 false None (codes "x" ∷ [])))
    × (settings_of (codes "--ring" ∷ codes "4096" ∷ codes "x" ∷ []) ≡ Some (ask 4 4096 1024 false None (codes "x" ∷ [])))
    × (settings_of (codes "--ring" ∷ codes "0" ∷ codes "x" ∷ []) ≡ None)
    × (settings_of (codes "--ring" ∷ codes "4097" ∷ codes "x" ∷ []) ≡ None)

-- a signature has one of five numbers of bits
abbrev pub BitsExamples : Type 0
BitsExamples =
    (settings_of (codes "--bits" ∷ codes "064" ∷ codes "x" ∷ []) ≡ Some (ask 4 1024 64 false None (codes "x" ∷ [])))
    × (settings_of (codes "--bits" ∷ codes "64" ∷ codes "x" ∷ []) ≡ Some (ask 4 1024 64 false None (codes "x" ∷ [])))
    × (settings_of (codes "--bits" ∷ codes "128" ∷ codes "x" ∷ []) ≡ Some (ask 4 1024 128 false None (codes "x" ∷ [])))
    × (settings_of (codes "--bits" ∷ codes "256" ∷ codes "x" ∷ []) ≡ Some (ask 4 1024 256 false None (codes "x" ∷ [])))
    × (settings_of (codes "--bits" ∷ codes "512" ∷ codes "x" ∷ []) ≡ Some (ask 4 1024 512 false None (codes "x" ∷ [])))
    × (settings_of (codes "--bits=1024" ∷ codes "x" ∷ []) ≡ Some (ask 4 1024 1024 false None (codes "x" ∷ [])))
    × (settings_of (codes "--bits" ∷ codes "96" ∷ codes "x" ∷ []) ≡ None)
    × (settings_of (codes "--bits" ∷ codes "0" ∷ codes "x" ∷ []) ≡ None)

-- a report is asked for once, beside a query, by a flag without a value
abbrev pub ReportExamples : Type 0
ReportExamples =
    (settings_of (codes "--report" ∷ codes "x" ∷ []) ≡ Some (ask 4 1024 1024 true None (codes "x" ∷ [])))
    × (settings_of (codes "--report=1" ∷ codes "x" ∷ []) ≡ None)
    × (settings_of (codes "--report" ∷ codes "--report" ∷ codes "x" ∷ []) ≡ None)
    × (settings_of (codes "--report" ∷ []) ≡ None)

-- what is no option is a query, and so is all behind `--`
abbrev pub QueryExamples : Type 0
QueryExamples =
    (settings_of (codes "--" ∷ codes "-a" ∷ []) ≡ Some (ask 4 1024 1024 false None (codes "-a" ∷ [])))
    × (settings_of (codes "--" ∷ codes "--" ∷ []) ≡ Some (ask 4 1024 1024 false None (codes "--" ∷ [])))
    × (settings_of (codes "-" ∷ []) ≡ Some (ask 4 1024 1024 false None (codes "-" ∷ [])))
    × (settings_of (codes "" ∷ []) ≡ Some (ask 4 1024 1024 false None (codes "" ∷ [])))
    × (settings_of (codes "a" ∷ codes "--" ∷ codes "b" ∷ codes "c" ∷ []) ≡ Some (ask 4 1024 1024 false None (codes "a" ∷ codes "b" ∷ codes "c" ∷ [])))
    × (settings_of (codes "é" ∷ []) ≡ Some (ask 4 1024 1024 false None (codes "é" ∷ [])))
    × (settings_of (replicate 64 (codes "x")) ≡ Some (ask 4 1024 1024 false None (replicate 64 (codes "x"))))

-- a replay stands alone
abbrev pub ReplayExamples : Type 0
ReplayExamples =
    (settings_of (codes "--replay" ∷ []) ≡ Some replay)
    × (settings_of (codes "--replay" ∷ codes "--" ∷ []) ≡ Some replay)
    × (settings_of (codes "--replay" ∷ codes "x" ∷ []) ≡ None)
    × (settings_of (codes "--replay=1" ∷ []) ≡ None)
    × (settings_of (codes "--replay" ∷ codes "--replay" ∷ []) ≡ None)
    × (settings_of (codes "--replay" ∷ codes "--workers" ∷ codes "2" ∷ []) ≡ None)
    × (settings_of (codes "--replay" ∷ codes "--generate" ∷ codes "1" ∷ []) ≡ None)
    × (settings_of (codes "--replay" ∷ codes "--ring" ∷ codes "1024" ∷ []) ≡ None)
    × (settings_of (codes "--replay" ∷ codes "--bits" ∷ codes "1024" ∷ []) ≡ None)
    × (settings_of (codes "--replay" ∷ codes "--report" ∷ []) ≡ None)

-- no words, unknown options, options given twice, too many queries
abbrev pub RefusedExamples : Type 0
RefusedExamples =
    (settings_of [] ≡ None)
    × (settings_of (codes "--" ∷ []) ≡ None)
    × (settings_of (codes "-x" ∷ []) ≡ None)
    × (settings_of (codes "--work" ∷ codes "3" ∷ codes "x" ∷ []) ≡ None)
    × (settings_of (codes "--workers" ∷ codes "3" ∷ codes "--workers" ∷ codes "3" ∷ codes "x" ∷ []) ≡ None)
    × (settings_of (codes "--help" ∷ []) ≡ None)
    × (settings_of (codes "--version" ∷ []) ≡ None)
    × (settings_of (replicate 65 (codes "x")) ≡ None)
