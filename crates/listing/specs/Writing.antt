-- Parts of the text, for the contracts of the functions that write it part by part.
use Rattle.std.specs.Prelude.{List, ◌++◌, ℕ}
use Rattle.listing.specs.Text.{text, decimal, sent_text}

-- a word, a number, another word, and another number
abbrev pub two_text : List ℕ → ℕ → List ℕ → ℕ → List ℕ
two_text first a second b = first ++ decimal a ++ second ++ decimal b

-- the parts of a line
abbrev pub opening_text : ℕ → ℕ → List ℕ
opening_text i v = decimal i ++ text " opened " ++ decimal v

abbrev pub spaced : List ℕ → List ℕ
spaced s = text " " ++ s

abbrev pub sent_line : ℕ → ℕ → List ℕ
sent_line proposals vetoes = sent_text proposals vetoes ++ text "\n"

abbrev pub header_text : ℕ → ℕ → List ℕ
header_text n R = text "trucks " ++ decimal n ++ text " rounds " ++ decimal R ++ text "\n"
