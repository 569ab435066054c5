-- What the claims of document 02, item 10, on readings speak of. The theorems are proofs/Jobs.antt.
use Rattle.receive.specs.declared.Answer.{Answer}
use Rattle.receive.specs.declared.Answer.TheVariants.{Refused, Nothing, Open, Counted}
use Rattle.receive.specs.declared.Reading.{Reading}

-- "entry numbers in item 7's answer": a reading without that number
abbrev pub answer_unnumbered : Answer → Answer
answer_unnumbered (Refused x) = Refused x
answer_unnumbered Nothing = Nothing
answer_unnumbered Open = Open
answer_unnumbered (Counted o w p v) = Counted o w p 0

abbrev pub unnumbered : Reading → Reading
unnumbered r = record { answer = answer_unnumbered r.answer; start = r.start; next = r.next; state = r.state }
