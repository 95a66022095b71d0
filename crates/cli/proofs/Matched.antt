-- What `clap` finds on a line, and what that is.
use Rattle.std.proofs.Common.{◌≡◌, ◌∙◌, true, List, [], ◌∷◌, Option, None, codes, sym, ap, subst, inl, inr}
use Rattle.clap.specs.Faults.{is_simple_and_free}
use Rattle.clap.specs.Simple.{is_simple}
use Rattle.clap.specs.Words.{App, HasKind, HasMatchesOf, Kinds, Row, Text, fault_of, found_of, kind_of, matches_of, rows_of}
use Rattle.clap.specs.declared.error.Error.{Error}
use Rattle.clap.specs.declared.error.kind.ErrorKind.TheVariants.{OutOfMemory}
use Rattle.clap.specs.declared.parser.matches.ArgMatches.{ArgMatches}
use Rattle.cli.proofs.Refused.{none_refused}
use Rattle.cli.specs.Files.{line_in}
use Rattle.cli.specs.Lines.{framec, line_of, unless_refused, IsLine}
use Rattle.cli.specs.declared.line.Line.{Line}

pub line_matched : (app : App) (words : List Text) (found : ArgMatches) → app ≡ framec → (is_simple_and_free app ≡ true → fault_of app words ≡ []) → HasMatchesOf app words found → IsLine words × (rows_of (found_of found) ≡ matches_of framec words)
line_matched app words found is faults has = (
  subst (λ a. fault_of a words ≡ []) is (faults (ap is_simple_and_free is)),
  subst (λ a. rows_of (found_of found) ≡ matches_of a words) is (has (ap is_simple is)).0,
)

-- where memory did not run out, a refused line has a fault
pub line_faulty : (app : App) (words : List Text) (error : Error) → app ≡ framec → (is_simple_and_free app ≡ true → HasKind (fault_of app words) error) → ¬ (kind_of error ≡ OutOfMemory) → ¬ IsLine words
line_faulty app words error is faults other line = by (subst (λ kinds. HasKind kinds error) line (subst (λ a. HasKind (fault_of a words) error) is (faults (ap is_simple_and_free is))))
  where
    by : HasKind [] error → ⊥
    by (inl e) = other e
    by (inr none) = none

pub line_read : (words line : List Text) (rows : List Row) (found : Option Line) → line ≡ codes "framec" ∷ words → IsLine line → rows ≡ matches_of framec line → found ≡ line_in rows → found ≡ line_of words
line_read words line rows found is fits all reads =
    let whole : List Text = codes "framec" ∷ words in
    let none : fault_of framec whole ≡ [] = subst IsLine is fits in
    reads
    ∙ ap line_in (all ∙ ap (matches_of framec) is)
    ∙ ap (λ (faults : Kinds). unless_refused faults (line_in (matches_of framec whole))) (sym none)

pub line_refused : (words line : List Text) → line ≡ codes "framec" ∷ words → ¬ IsLine line → ◌≡◌ {A = Option Line} None (line_of words)
line_refused words line is refused =
    let whole : List Text = codes "framec" ∷ words in
    sym (none_refused (fault_of framec whole) (line_in (matches_of framec whole)) (λ none. refused (subst IsLine (sym is) none)))
