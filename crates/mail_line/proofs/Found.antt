-- What a parse of the line's command gives.
use Rattle.std.proofs.Common.{◌≡◌, ◌≢◌, true, false, List, [], ◌∷◌, Some, None, refl, sym, ◌∙◌, ap, subst, inl, inr, cond, arith, Bool}
use Rattle.std.proofs.lemmas.Bool.{ne_eqb}
use Rattle.clap.specs.Words.{App, Row, Text, fault_of, matches_of, rows_of, found_of, kind_of, HasKind, IsAmong, Kinds, HasMatchesOf, is_simple, is_simple_and_free}
use Rattle.clap.specs.Walk.{is_empty}
use Rattle.clap.specs.declared.error.Error.{Error}
use Rattle.clap.specs.declared.error.kind.ErrorKind.TheVariants.{OutOfMemory}
use Rattle.clap.specs.declared.parser.matches.ArgMatches.{ArgMatches}
use Rattle.clap.proofs.OnLiterals.{clap_on_literals}
use Rattle.mail_line.specs.CommandLine.{line_app, given}

line_simple : is_simple line_app ≡ true
unfolding clap_on_literals
line_simple = refl

line_free : is_simple_and_free line_app ≡ true
unfolding clap_on_literals
line_free = refl

module _ (app : App) (is : app ≡ line_app) (words : List Text) where
  pub is_free : is_simple_and_free app ≡ true
  is_free = ap is_simple_and_free is ∙ line_free

  none_at_all : (kinds : Kinds) → kinds ≡ [] → (rows : List Row) → cond (is_empty kinds) (Some rows) None ≡ Some rows
  none_at_all [] e rows = refl
  none_at_all (k ∷ ks) e rows = cc

  some_among : (kinds : Kinds) (k : _) → IsAmong k kinds → (rows : List Row) → cond (is_empty kinds) (Some rows) None ≡ None
  some_among [] k among rows = absurd among
  some_among (x ∷ xs) k among rows =
      let none : is_empty (x ∷ xs) ≡ false = ne_eqb _ _ (λ e. omega (arith, e)) in
      ap (λ (b : Bool). cond b (Some rows) None) none

  pub found : (m : ArgMatches) → fault_of app words ≡ [] → HasMatchesOf app words m → given words ≡ Some (rows_of (found_of m))
  found m fault matches =
      none_at_all (fault_of line_app words) (ap (λ a. fault_of a words) (sym is) ∙ fault) (matches_of line_app words)
      ∙ ap Some (ap (λ a. matches_of a words) (sym is) ∙ sym (matches (ap is_simple is ∙ line_simple)).0)

  pub refused : (e : Error) → HasKind (fault_of app words) e → kind_of e ≢ OutOfMemory → given words ≡ None
  refused e (inl memory) other = absurd (other memory)
  refused e (inr among) other =
      some_among (fault_of line_app words) (kind_of e) (subst (λ a. IsAmong (kind_of e) (fault_of a words)) is among) (matches_of line_app words)
