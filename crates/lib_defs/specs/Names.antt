-- The names of the library functions, in the order of their numbers.
use Rattle.std.specs.Prelude.{ℕ, List, [], ◌∷◌, codes}
use Rattle.lib_defs.specs.declared.row_name.RowName.{RowName}
use Rattle.lib_defs.specs.declared.row_name.RowName.TheVariants as n

abbrev pub name_text : RowName → List ℕ
name_text n.MemcpyS = codes "memcpy_s"
name_text n.WmemcpyS = codes "wmemcpy_s"
name_text n.MemmoveS = codes "memmove_s"
name_text n.WmemmoveS = codes "wmemmove_s"
name_text n.MemsetS = codes "memset_s"
name_text n.StrcpyS = codes "strcpy_s"
name_text n.WcscpyS = codes "wcscpy_s"
name_text n.StrncpyS = codes "strncpy_s"
name_text n.WcsncpyS = codes "wcsncpy_s"
name_text n.StrcatS = codes "strcat_s"
name_text n.WcscatS = codes "wcscat_s"
name_text n.StrncatS = codes "strncat_s"
name_text n.WcsncatS = codes "wcsncat_s"
name_text n.StrtokS = codes "strtok_s"
name_text n.WcstokS = codes "wcstok_s"
name_text n.StrerrorS = codes "strerror_s"
name_text n.WctombS = codes "wctomb_s"
name_text n.StrnlenS = codes "strnlen_s"
name_text n.WcsnlenS = codes "wcsnlen_s"
name_text n.StrerrorlenS = codes "strerrorlen_s"
name_text n.SetConstraintHandlerS = codes "set_constraint_handler_s"
name_text n.AbortHandlerS = codes "abort_handler_s"
name_text n.IgnoreHandlerS = codes "ignore_handler_s"
name_text n.Memcpy = codes "memcpy"
name_text n.Memmove = codes "memmove"
name_text n.Wmemcpy = codes "wmemcpy"
name_text n.Memset = codes "memset"
name_text n.Wmemset = codes "wmemset"
name_text n.Memcmp = codes "memcmp"
name_text n.Memchr = codes "memchr"
name_text n.Strlen = codes "strlen"
name_text n.Wcslen = codes "wcslen"
name_text n.Strcpy = codes "strcpy"
name_text n.Wcscpy = codes "wcscpy"
name_text n.Strcat = codes "strcat"
name_text n.Wcscat = codes "wcscat"
name_text n.Strncpy = codes "strncpy"
name_text n.Strncat = codes "strncat"
name_text n.Strcmp = codes "strcmp"
name_text n.Strncmp = codes "strncmp"
name_text n.Wcscmp = codes "wcscmp"
name_text n.Strchr = codes "strchr"
name_text n.Strrchr = codes "strrchr"
name_text n.Malloc = codes "malloc"
name_text n.Calloc = codes "calloc"
name_text n.Realloc = codes "realloc"
name_text n.Free = codes "free"
name_text n.Exit = codes "exit"
name_text n.Abort = codes "abort"
name_text n.Putchar = codes "putchar"
name_text n.Puts = codes "puts"
name_text n.Getchar = codes "getchar"
name_text n.Printf = codes "printf"

-- the k-th of them, from 0, has the number k
abbrev pub row_names : List RowName
row_names =
    n.MemcpyS
    ∷ n.WmemcpyS
    ∷ n.MemmoveS
    ∷ n.WmemmoveS
    ∷ n.MemsetS
    ∷ n.StrcpyS
    ∷ n.WcscpyS
    ∷ n.StrncpyS
    ∷ n.WcsncpyS
    ∷ n.StrcatS
    ∷ n.WcscatS
    ∷ n.StrncatS
    ∷ n.WcsncatS
    ∷ n.StrtokS
    ∷ n.WcstokS
    ∷ n.StrerrorS
    ∷ n.WctombS
    ∷ n.StrnlenS
    ∷ n.WcsnlenS
    ∷ n.StrerrorlenS
    ∷ n.SetConstraintHandlerS
    ∷ n.AbortHandlerS
    ∷ n.IgnoreHandlerS
    ∷ n.Memcpy
    ∷ n.Memmove
    ∷ n.Wmemcpy
    ∷ n.Memset
    ∷ n.Wmemset
    ∷ n.Memcmp
    ∷ n.Memchr
    ∷ n.Strlen
    ∷ n.Wcslen
    ∷ n.Strcpy
    ∷ n.Wcscpy
    ∷ n.Strcat
    ∷ n.Wcscat
    ∷ n.Strncpy
    ∷ n.Strncat
    ∷ n.Strcmp
    ∷ n.Strncmp
    ∷ n.Wcscmp
    ∷ n.Strchr
    ∷ n.Strrchr
    ∷ n.Malloc
    ∷ n.Calloc
    ∷ n.Realloc
    ∷ n.Free
    ∷ n.Exit
    ∷ n.Abort
    ∷ n.Putchar
    ∷ n.Puts
    ∷ n.Getchar
    ∷ n.Printf
    ∷ []
