-- The words of the commands.
use Rattle.std.specs.Prelude.{ℕ, List, [], ◌∷◌, Option, codes}
use Rattle.std.specs.List.{find}
use Rattle.std.specs.Str.{bytes_eq}
use Rattle.cli.specs.declared.word.Word.{Word}
use Rattle.cli.specs.declared.word.Word.TheVariants.{Cull, Place, Bound, Compile, Auto, Meaning, Migrate, Check, Gen, Run, Exec, Flight, Audit}

abbrev pub text_of : Word → List ℕ
text_of Cull = codes "cull"
text_of Place = codes "place"
text_of Bound = codes "bound"
text_of Compile = codes "compile"
text_of Auto = codes "auto"
text_of Meaning = codes "meaning"
text_of Migrate = codes "migrate"
text_of Check = codes "check"
text_of Gen = codes "gen"
text_of Run = codes "run"
text_of Exec = codes "exec"
text_of Flight = codes "flight"
text_of Audit = codes "audit"

abbrev pub all_words : List Word
all_words = Cull ∷ Place ∷ Bound ∷ Compile ∷ Auto ∷ Meaning ∷ Migrate ∷ Check ∷ Gen ∷ Run ∷ Exec ∷ Flight ∷ Audit ∷ []

-- the command that has this word
abbrev pub word_of : List ℕ → Option Word
word_of text = find (λ word. bytes_eq text (text_of word)) all_words
