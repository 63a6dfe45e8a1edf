-- The text of the printing program (docs/SCOPE.md 8.2), byte by byte. Definitions only.
use Rattle.std.specs.Prelude.{ℕ, ◌+◌, ◌≡◌, length}
use Prim.Native.Char.{code}
use Prim.Native.String.{String, [] as ε, ◌∷◌ as ◌◁◌}
use mathlib.Core.List.{List, [], ◌∷◌, ◌++◌, flat_map}
use Rattle.plane.specs.declared.Point.{Point}
use Rattle.rounds.specs.declared.Box.{Box}
use Rattle.rounds.specs.Refusals.{Fault, none, fault, number_of, ◌or_else◌, input_fault, box_list_fault, plug_fault}
use Rattle.rounds.specs.Replies.{Reply, result, refused, reply_under, buffer_under}
use Rattle.rounds.specs.Names.{name_of}
use Rattle.rounds.specs.Words.{word_of}
use Rattle.rounds.specs.declared.Word.{Word}
use Rattle.formats.specs.Content.{content_of}
use Rattle.formats.specs.Promises.{edges}
use Rattle.texts.specs.Decimals.{decimal}

-- a text as the ASCII codes of its characters
abbrev pub ascii : String → List ℕ
ascii ε = []
ascii (c ◁ s) = code c ∷ ascii s

-- the line of a refused file or round: `refused`, number, place
unfoldable pub refused_line : ℕ → ℕ → List ℕ
refused_line number place = ascii "refused " ++ decimal number ++ ascii " " ++ decimal place ++ ascii "\n"

-- the first line otherwise: `boxes`, count, `plugs`, count
unfoldable pub count_line : ℕ → ℕ → List ℕ
count_line boxes plugs = ascii "boxes " ++ decimal boxes ++ ascii " plugs " ++ decimal plugs ++ ascii "\n"

-- the three words
abbrev pub word_text : Word → List ℕ
word_text word = name_of word

-- what stands after a plug's number: a word, or `refused 6` for a plug beyond ±16,000
abbrev pub reply_text : Reply Word → List ℕ
reply_text (result word) = word_text word
reply_text (refused number place) = ascii "refused 6"

-- the same with the space before it and the line's end
abbrev pub after_number : Reply Word → List ℕ
after_number reply = ascii " " ++ reply_text reply ++ ascii "\n"

-- the reply on one plug of accepted boxes
abbrev pub plug_reply : List Box → Point → Reply Word
plug_reply boxes plug = reply_under (plug_fault 1 plug) (word_of boxes plug)

-- the line of plug number k: its number, and a word or `refused 6`
unfoldable pub plug_line : ℕ → Reply Word → List ℕ
plug_line k reply = decimal k ++ after_number reply

-- plug by plug, the first of them having the number k
unfoldable pub plug_lines : ℕ → List Box → List Point → List ℕ
plug_lines k boxes [] = []
plug_lines k boxes (p ∷ ps) = plug_line k (plug_reply boxes p) ++ plug_lines (k + 1) boxes ps

-- what turns the whole back: 12, then the reader, then the boxes as the verdict does. No buffer for boxes or plugs is lent, so 7 cannot arise
unfoldable pub whole_fault : List ℕ → Fault
whole_fault file = input_fault (length file) or_else (content_of file).fault or_else box_list_fault (flat_map edges (content_of file).boxes)

-- one line under a fault; otherwise the counts, then a line for each plug
abbrev pub text_under : Fault → List Box → List Point → List ℕ
text_under (fault cause place) boxes plugs = refused_line (number_of cause) place
text_under none boxes plugs = count_line (length boxes) (length plugs) ++ plug_lines 1 boxes plugs

-- what the printing program prints for an input
unfoldable pub text_of : List ℕ → List ℕ
text_of file = text_under (whole_fault file) (content_of file).boxes (content_of file).plugs

-- a text was written to the front of a lent buffer, whose remainder is as it was; its length is returned
pub record Wrote (text entry : List ℕ) (count : ℕ) (exit : List ℕ) : Type 0 where
  pub counted : count ≡ length text
  pub bytes : exit ≡ buffer_under none text entry
