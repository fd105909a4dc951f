-- The calls whose name and shape are run (own profile of POSIX's socket calls).
use Rattle.std.specs.Prelude.{ℕ, ◌==◌, Bool, true, false, Option, Some, None, List, [], ◌∷◌, if◌then◌else◌}
use Rattle.pd_script.specs.declared.calls.Argument.{Argument}
use Rattle.pd_script.specs.declared.calls.Argument.TheVariants.{Int, Element, Constant as Word}
use Rattle.pd_script.specs.declared.calls.Call.{Call}
use Rattle.pd_script.specs.declared.calls.Constant.{Constant}
use Rattle.pd_script.specs.declared.calls.Constant.TheVariants.{SockStream, IpprotoTcp, SolSocket, SolTcp, SoReuseaddr, TcpNodelay, FSetfl}
use Rattle.pd_script.specs.declared.calls.Function.{Function}
use Rattle.pd_script.specs.declared.calls.Function.TheVariants.{Socket as SocketCall, Bind as BindCall, Listen as ListenCall, Accept as AcceptCall, Setsockopt as SetsockoptCall, Fcntl as FcntlCall, Write as WriteCall, Close as CloseCall}
use Rattle.pd_host.specs.declared.syscall.SocketOperation.{SocketOperation}
use Rattle.pd_host.specs.declared.syscall.SocketOperation.TheVariants.{Bind, Listen, Accept, ReuseAddress, NoDelay, SetFlags, Write, Close}
use Rattle.pd_host.specs.declared.syscall.Syscall.{Syscall}
use Rattle.pd_host.specs.declared.syscall.Syscall.TheVariants.{Socket, On}

-- `IPPROTO_TCP` or 0
abbrev pub is_tcp_or_default_protocol : Argument → Bool
is_tcp_or_default_protocol (Word IpprotoTcp) = true
is_tcp_or_default_protocol (Int n) = n == 0
is_tcp_or_default_protocol _ = false

-- `SOL_TCP` or `IPPROTO_TCP`
abbrev pub is_tcp_level : Constant → Bool
is_tcp_level SolTcp = true
is_tcp_level IpprotoTcp = true
is_tcp_level _ = false

-- `socket(any, SOCK_STREAM, IPPROTO_TCP or 0)`
abbrev pub parse_socket_arguments_if_tcp_stream : List Argument → Option Syscall
parse_socket_arguments_if_tcp_stream (_ ∷ Word SockStream ∷ protocol ∷ []) = if is_tcp_or_default_protocol protocol then Some Socket else None
parse_socket_arguments_if_tcp_stream _ = None

-- `TCP_NODELAY` is set by 1 and cleared by 0
abbrev pub nodelay_syscall_if_zero_or_one : ℕ → ℕ → Option Syscall
nodelay_syscall_if_zero_or_one fd n = if n == 1 then Some (On fd (NoDelay true)) else if n == 0 then Some (On fd (NoDelay false)) else None

-- `setsockopt(fd, SOL_SOCKET, SO_REUSEADDR, any, any)`, `setsockopt(fd, SOL_TCP or IPPROTO_TCP, TCP_NODELAY, [n], any)`
abbrev pub parse_setsockopt_reuseaddr_or_nodelay : List Argument → Option Syscall
parse_setsockopt_reuseaddr_or_nodelay (Int fd ∷ Word SolSocket ∷ Word SoReuseaddr ∷ _ ∷ _ ∷ []) = Some (On fd ReuseAddress)
parse_setsockopt_reuseaddr_or_nodelay (Int fd ∷ Word level ∷ Word TcpNodelay ∷ Element n ∷ _ ∷ []) = if is_tcp_level level then nodelay_syscall_if_zero_or_one fd n else None
parse_setsockopt_reuseaddr_or_nodelay _ = None

-- `fcntl(fd, F_SETFL, any)`
abbrev pub parse_fcntl_arguments_if_setfl : List Argument → Option Syscall
parse_fcntl_arguments_if_setfl (Int fd ∷ Word FSetfl ∷ _ ∷ []) = Some (On fd SetFlags)
parse_fcntl_arguments_if_setfl _ = None

-- `bind(fd, any, any)` and `accept(fd, any, any)`
abbrev pub parse_bind_or_accept_arguments : SocketOperation → List Argument → Option Syscall
parse_bind_or_accept_arguments operation (Int fd ∷ _ ∷ _ ∷ []) = Some (On fd operation)
parse_bind_or_accept_arguments operation _ = None

-- `listen(fd, any)`
abbrev pub parse_listen_arguments : List Argument → Option Syscall
parse_listen_arguments (Int fd ∷ _ ∷ []) = Some (On fd Listen)
parse_listen_arguments _ = None

-- `write(fd, any, n)`
abbrev pub parse_write_arguments : List Argument → Option Syscall
parse_write_arguments (Int fd ∷ _ ∷ Int n ∷ []) = Some (On fd (Write n))
parse_write_arguments _ = None

-- `close_stream(fd)`
abbrev pub parse_close_arguments : List Argument → Option Syscall
parse_close_arguments (Int fd ∷ []) = Some (On fd Close)
parse_close_arguments _ = None

-- the request of a call of this name, where its shape is run
abbrev pub syscall_in : Function → List Argument → Option Syscall
syscall_in SocketCall arguments = parse_socket_arguments_if_tcp_stream arguments
syscall_in BindCall arguments = parse_bind_or_accept_arguments Bind arguments
syscall_in ListenCall arguments = parse_listen_arguments arguments
syscall_in AcceptCall arguments = parse_bind_or_accept_arguments Accept arguments
syscall_in SetsockoptCall arguments = parse_setsockopt_reuseaddr_or_nodelay arguments
syscall_in FcntlCall arguments = parse_fcntl_arguments_if_setfl arguments
syscall_in WriteCall arguments = parse_write_arguments arguments
syscall_in CloseCall arguments = parse_close_arguments arguments
syscall_in _ arguments = None

-- the request of a call, where its name and shape are run
abbrev pub syscall_of : Call → Option Syscall
syscall_of call = syscall_in call.function call.arguments
