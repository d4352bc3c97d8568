-- Loop invariant of `text_after_strip`: the bytes so far, followed by the bytes of the rest of the
-- text, are the whole text with the stripped bytes replaced.
use Rattle.std.proofs.Common.{◌≡◌, ◌++◌, length, drop}
use Rattle.stl_rows.specs.DrawnPage.{text_after_strip}
use Rattle.stl_rows.proofs.layout_drawing.text_after_strip.Given as goal

abbrev pub invariant-loop-byte : goal.invariant-loop-byte
invariant-loop-byte l = record {
  few : length l.bytes.items ≡ l.byte-index;
  all :
      l.bytes.items ++ text_after_strip l.items (drop l.byte-index l.text)
      ≡ text_after_strip l.items l.text;
}
