-- What is printed of a fault.
use Rattle.std.specs.Prelude.{ℕ, List, ◌++◌, codes, decimal}
use Rattle.tape_text.specs.declared.fault.Expected.{Expected}
use Rattle.tape_text.specs.declared.fault.Expected.TheVariants.{Mark, Byte}
use Rattle.tape_text.specs.declared.fault.TextFault.{TextFault}
use Rattle.tape_text.specs.declared.fault.PunchError.{PunchError}
use Rattle.tape_text.specs.declared.fault.PunchError.TheVariants.{Text, OutOfMemory}

-- What may come next on a line.
abbrev pub expected_text : Expected → List ℕ
expected_text Mark = codes "a mark of two capital letters, or two dots"
expected_text Byte = codes "a byte of two hexadecimal digits"

-- Line and column are decimal.
abbrev pub fault_text : TextFault → List ℕ
fault_text f = codes "line " ++ decimal f.line ++ codes ", column " ++ decimal f.column ++ codes ": expected " ++ expected_text f.expected

-- A fault in the text, or want of memory.
abbrev pub error_text : PunchError → List ℕ
error_text (Text f) = fault_text f
error_text OutOfMemory = codes "out of memory"
