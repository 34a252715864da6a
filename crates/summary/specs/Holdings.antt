-- What a set-up list holds, and the line that tells it.
use Rattle.std.specs.Prelude.{ℕ, ◌+◌, List, [], ◌∷◌, ◌++◌, Some, None, Ok, Err, codes, decimal, Option, Result}
use Rattle.fault.specs.declared.Fault.{Fault}
use Rattle.form.specs.Forms.{Said, write, fans, remark, trailer, form_of}
use Rattle.setup.specs.Lines.{TextAt}
use Rattle.summary.specs.declared.Summary.{Summary}

-- 1 for a line of the form, and 0 for any other
abbrev pub one_write : Option Said → ℕ
one_write None = 0
one_write (Some (write unit register byte)) = 1
one_write (Some (fans unit count)) = 0
one_write (Some (remark text)) = 0
one_write (Some (trailer count)) = 0

abbrev pub one_count : Option Said → ℕ
one_count None = 0
one_count (Some (write unit register byte)) = 0
one_count (Some (fans unit count)) = 1
one_count (Some (remark text)) = 0
one_count (Some (trailer count)) = 0

abbrev pub one_remark : Option Said → ℕ
one_remark None = 0
one_remark (Some (write unit register byte)) = 0
one_remark (Some (fans unit count)) = 0
one_remark (Some (remark text)) = 1
one_remark (Some (trailer count)) = 0

abbrev pub how_many : (Option Said → ℕ) → List TextAt → ℕ
how_many one [] = 0
how_many one (t ∷ ts) = one (form_of t.line) + how_many one ts

abbrev pub holdings : List TextAt → Summary
holdings ts = record { writes = how_many one_write ts; counts = how_many one_count ts; remarks = how_many one_remark ts }

-- a and b together
abbrev pub plus : Summary → Summary → Summary
plus a b = record { writes = a.writes + b.writes; counts = a.counts + b.counts; remarks = a.remarks + b.remarks }

-- s and one line more
abbrev pub noted : Summary → Option Said → Summary
noted s o = plus s (record { writes = one_write o; counts = one_count o; remarks = one_remark o })

-- what a good list holds, or the fault of any other
abbrev pub summed : Option Fault → Summary → Result Summary Fault
summed None s = Ok s
summed (Some f) s = Err f

-- `writes N, fan counts N, remarks N`, in decimal
abbrev pub summary_line : Summary → List ℕ
summary_line s = codes "writes " ++ (decimal s.writes ++ (codes ", fan counts " ++ (decimal s.counts ++ (codes ", remarks " ++ decimal s.remarks))))
