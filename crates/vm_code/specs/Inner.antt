-- What the fields of a `Code` stand for (inside the crate).
use Rattle.vm_code.specs.declared.code.Code.TheInside.{Inside}
use Rattle.vm_code.specs.Contents.{Contents}
use Rattle.vm_code.specs.Built.{IsBuilt}

abbrev pub contents_of : Inside → Contents
contents_of code = record {
  instrs = code.instrs.items;
  functions = code.functions.items;
  objects = code.objects.items;
  texts = code.texts.items;
  types = code.types.items;
}

abbrev pub IsBuiltInside : Inside → Type 0
IsBuiltInside code = IsBuilt (contents_of code)
