-- The names of calls that are run, as blocks have them.
use Rattle.std.specs.Prelude.{ℕ, List, ◌++◌, codes}
use Rattle.pd_script.specs.Values.{function_name}
use Rattle.pd_script.specs.declared.calls.Function.{Function}

-- the name of a call in backquotes
abbrev pub quoted_call_name : Function → List ℕ
quoted_call_name f = codes "`" ++ function_name f ++ codes "`"
